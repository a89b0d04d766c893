-- Which versions a collection keeps, and what becomes of timestamps that are stripped.
use Rattle.std.specs.Prelude.{ℕ, ◌+◌, max, Bool, not, nat_le, ◌&&◌, ◌||◌, List, [], ◌∷◌, map, filter}
use Rattle.std.specs.List.{list_any}
use Rattle.ts_key.specs.declared.numbers.Ts.{Ts}
use Rattle.ts_key.specs.declared.numbers.Seq.{Seq}
use Rattle.ts_key.specs.declared.version.Version.{Version}
use Rattle.udt_model.specs.declared.reply.KeySpan.{KeySpan}
use Rattle.udt_model.specs.Versions.{is_newer, is_of, is_put, up_to}
use Rattle.udt_model.specs.Orders.{is_in_some, stored}

-- o hides v from every read at or above the floor that sees both: it is a newer version of the key, at most as far up as v or the floor
abbrev pub hides : Ts → Version → Version → Bool
hides floor o v = is_of v.family v.key o && is_newer o v && nat_le o.ts.0 (max v.ts.0 floor.0)

-- one of the list hides it
abbrev pub is_hidden : List Version → Ts → Version → Bool
is_hidden vs floor v = list_any (λ o. hides floor o v) vs

-- a snapshot of this sequence sees it: none of the list up to there hides it
abbrev pub is_seen_at : List Version → Ts → Version → Seq → Bool
is_seen_at vs floor v s = nat_le v.seq.0 s.0 && not (is_hidden (up_to s.0 vs) floor v)

-- a read at or above the floor may see it: now, or with one of the snapshots
abbrev pub is_ever_seen : List Version → Ts → List Seq → Version → Bool
is_ever_seen vs floor seqs v = not (is_hidden vs floor v) || list_any (is_seen_at vs floor v) seqs

abbrev pub seen_of : List Version → Ts → List Seq → List Version
seen_of vs floor seqs = filter (is_ever_seen vs floor seqs) vs

-- p is a put of v's key that is older than v
abbrev pub is_put_below : Version → Version → Bool
is_put_below v p = is_put p.op && is_of v.family v.key p && is_newer v p

-- A delete up to the floor has no use where its key lies in no deeper span and no put of the key below it is kept.
abbrev pub is_useless : List Version → Ts → List KeySpan → Version → Bool
is_useless kept floor deeper v = not (is_put v.op) && nat_le v.ts.0 floor.0 && not (is_in_some deeper v.key) && not (list_any (is_put_below v) kept)

abbrev pub without_useless : Ts → List KeySpan → List Version → List Version
without_useless floor deeper kept = filter (λ v. not (is_useless kept floor deeper v)) kept

-- what a compaction keeps of versions of one family, in the stored order
abbrev pub collect : List Version → Ts → List Seq → List KeySpan → List Version
collect vs floor seqs deeper = stored (without_useless floor deeper (seen_of vs floor seqs))

-- what a flush keeps of them: every key may have versions deeper, so no delete is taken out
abbrev pub collect_all : List Version → Ts → List Seq → List Version
collect_all vs floor seqs = stored (seen_of vs floor seqs)

-- ---- stripping

-- the version with the timestamp 0
abbrev pub without_ts : Version → Version
without_ts v = record v { ts = record { 0 = 0 } }

-- each timestamp becomes 0
abbrev pub stripped : List Version → List Version
stripped vs = stored (map without_ts vs)

-- one above the greatest timestamp, 0 where there is no version
abbrev pub cutoff : List Version → ℕ
cutoff [] = 0
cutoff (v ∷ vs) = max (v.ts.0 + 1) (cutoff vs)
