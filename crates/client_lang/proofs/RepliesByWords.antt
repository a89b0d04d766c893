-- A reply is known by its words.
use Rattle.std.proofs.Common.{◌≡◌, ℕ, Bool, true, false, List, [], ◌∷◌, Option, Some, None, refl, sym, ap, ◌∙◌}
use Rattle.std.specs.Prelude.{codes, if◌then◌else◌}
use Rattle.std.specs.Str.{bytes_eq}
use Rattle.std.specs.Fmt.{decimal}
use Rattle.std.specs.Str.Parse.{digits_value}
use Rattle.std.proofs.lemmas.Fmt.{decimal_is_IsNumeral}
use Rattle.std.proofs.lemmas.Slice.Eq.{bytes_eq-Decides}
use Rattle.hex.specs.Hex.{IsBytes}
use Rattle.udt_model.specs.declared.reply.Reply.{Reply}
use Rattle.udt_model.specs.declared.reply.Reply.TheVariants as replies
use Rattle.udt_model.specs.declared.reply.Stamp.{Stamp}
use Rattle.udt_model.specs.declared.reply.Stamp.TheVariants as stamps
use Rattle.client_lang.specs.Print.{IsBuiltReply, reply_words, spell, stamp_word}
use Rattle.client_lang.specs.Typed.{IsNat64, IsTypedReply, IsTypedStamp}
use Rattle.client_lang.proofs.Spelling.{isn't_below, unspell, unspell-spell}
use Rattle.client_lang.proofs.OneOperation.{at_ts}

abbrev num : List ℕ → ℕ
num word = digits_value 10 word

num-decimal : (n : ℕ) → IsNat64 n → num (decimal n) ≡ n
num-decimal n h = (decimal_is_IsNumeral n h).1

below_is : (n : ℕ) (x : Bool) → bytes_eq (decimal n) (codes "below") ≡ x → IsNat64 n → bytes_eq (decimal n) (codes "below") ≡ false
below_is n true e h = absurd (isn't_below n h ((bytes_eq-Decides (decimal n) (codes "below")).0 e))
below_is n false e h = e

not_below : (n : ℕ) → IsNat64 n → bytes_eq (decimal n) (codes "below") ≡ false
not_below n h = below_is n (bytes_eq (decimal n) (codes "below")) refl h

abbrev or_else_reply : Reply → Option Reply → Reply
or_else_reply a (Some b) = b
or_else_reply a None = a

abbrev stamp_of : List ℕ → Stamp
stamp_of word = if bytes_eq word (codes "below") then stamps.Below else stamps.At (at_ts (num word))

abbrev lone_reply : List ℕ → Option Reply
lone_reply w = if bytes_eq w (codes "ok") then Some replies.Done else if bytes_eq w (codes "absent") then Some replies.Absent else if bytes_eq w (codes "unknown") then Some replies.Unknown else if bytes_eq w (codes "fault") then Some replies.Fault else None

abbrev pair_reply : List ℕ → List ℕ → Option Reply
pair_reply w v =
    if bytes_eq w (codes "ok") then Some (replies.OkAt (num v))
    else if bytes_eq w (codes "full") then Some (replies.Full (record { 0 = num v }))
    else if bytes_eq w (codes "collapsed") then Some (replies.Collapsed (at_ts (num v)))
    else if bytes_eq w (codes "halted") then Some (replies.Halted (num v))
    else Some replies.NoMemory

abbrev three_reply : List ℕ → List ℕ → List ℕ → Option Reply
three_reply w u v =
    if bytes_eq w (codes "below") then Some (replies.Below (num u) (at_ts (num v)))
    else if bytes_eq w (codes "fell") then Some (replies.Fell (num u) (at_ts (num v)))
    else Some (replies.Found (unspell u) (stamp_of v))

-- the reply of these words
abbrev reply_of : List (List ℕ) → Option Reply
reply_of [] = None
reply_of (w ∷ []) = lone_reply w
reply_of (w ∷ v ∷ []) = pair_reply w v
reply_of (w ∷ u ∷ v ∷ []) = three_reply w u v
reply_of (w ∷ u ∷ v ∷ x ∷ words) = None

stamp_back : (stamp : Stamp) → IsTypedStamp stamp → stamp_of (stamp_word stamp) ≡ stamp
stamp_back (stamps.At ts) h = rw (not_below ts.0 h) (ap (λ (n : ℕ). stamps.At (at_ts n)) (num-decimal ts.0 h))
stamp_back stamps.Below h = refl

found_back : (value : List ℕ) (stamp : Stamp) → IsBytes value → IsTypedStamp stamp → three_reply (codes "found") (spell value) (stamp_word stamp) ≡ Some (replies.Found value stamp)
found_back value stamp b h = rw (unspell-spell value b, stamp_back stamp h) refl

reply_of-words : (r : Reply) → IsBuiltReply r → IsTypedReply r → reply_of (reply_words r) ≡ Some r
reply_of-words replies.Done b h = refl
reply_of-words (replies.OkAt n) b h = ap (λ (k : ℕ). Some (replies.OkAt k)) (num-decimal n h)
reply_of-words (replies.Below op floor) b h = rw (num-decimal op h.0, num-decimal floor.0 h.1) refl
reply_of-words (replies.Fell op newest) b h = rw (num-decimal op h.0, num-decimal newest.0 h.1) refl
reply_of-words (replies.Full last) b h = rw (num-decimal last.0 h) refl
reply_of-words (replies.Found value stamp) b h = found_back value stamp h.0 h.1
reply_of-words replies.Absent b h = refl
reply_of-words (replies.Collapsed floor) b h = rw (num-decimal floor.0 h) refl
reply_of-words replies.Unknown b h = refl
reply_of-words (replies.Halted since) b h = rw (num-decimal since h) refl
reply_of-words replies.Fault b h = refl
reply_of-words replies.NoMemory b h = refl
reply_of-words r b h = absurd b

some_back : (a b : Reply) → Some a ≡ Some b → a ≡ b
some_back a b e = ap (λ (x : Option Reply). or_else_reply a x) e

pub reply_back : (a b : Reply) → IsBuiltReply a → IsBuiltReply b → IsTypedReply a → IsTypedReply b → reply_words a ≡ reply_words b → a ≡ b
reply_back a b p q s t e = some_back a b (sym (reply_of-words a p s) ∙ ap reply_of e ∙ reply_of-words b q t)
