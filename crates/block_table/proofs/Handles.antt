-- Handles, and their bytes.
use Rattle.std.proofs.Common.{◌≡◌, ℕ, ◌+◌, ◌-◌, ◌*◌, ◌^◌, ◌<◌, List, [], ◌∷◌, ◌++◌, length, take, drop, refl, sym, ap, ◌∙◌, arith, length-append, append_assoc}
use Rattle.std.specs.List.{flat_map, AllByRecursion, slice_range}
use Rattle.std.proofs.Math.Seq.{take-add}
use Rattle.std.proofs.lemmas.List.{append-nil}
use Rattle.ts_key.specs.Numbers.{number_bytes}
use Rattle.ts_key.proofs.NumberBytes.{length-number_bytes, number_bytes-unique}
use Rattle.data_block.proofs.Fielded.{cut}
use Rattle.block_table.specs.declared.handle.BlockHandle.{BlockHandle}
use Rattle.block_table.specs.Tables.{handle_bytes, index}
use Rattle.block_table.specs.Indexes.{IsHandle, AreHandles}

pub length-handle_bytes : (h : BlockHandle) → length (handle_bytes h) ≡ 20
length-handle_bytes h =
    omega (arith, length-append (number_bytes 8 h.offset ++ number_bytes 8 h.length) (number_bytes 4 h.versions), length-append (number_bytes 8 h.offset) (number_bytes 8 h.length), length-number_bytes 8 h.offset, length-number_bytes 8 h.length, length-number_bytes 4 h.versions)

pub length-handles_bytes : (hs : List BlockHandle) → length (flat_map handle_bytes hs) ≡ 20 * length hs
length-handles_bytes [] = refl
length-handles_bytes (h ∷ hs) = omega (arith, length-append (handle_bytes h) (flat_map handle_bytes hs), length-handle_bytes h, length-handles_bytes hs)

pub handles_bytes_more : (hs : List BlockHandle) (h : BlockHandle) → flat_map handle_bytes (hs ++ h ∷ []) ≡ flat_map handle_bytes hs ++ handle_bytes h
handles_bytes_more [] h = append-nil (handle_bytes h)
handles_bytes_more (g ∷ hs) h = ap (λ (xs : List ℕ). handle_bytes g ++ xs) (handles_bytes_more hs h) ∙ sym (append_assoc (handle_bytes g) (flat_map handle_bytes hs) (handle_bytes h))

-- a handle is known by its bytes
pub handle_once : (h k : BlockHandle) → IsHandle h → IsHandle k → handle_bytes h ≡ handle_bytes k → h ≡ k
handle_once h k x y e =
    let xo = x.offset in let xl = x.length in let xv = x.versions in
    let yo = y.offset in let yl = y.length in let yv = y.versions in
    let e1 : number_bytes 8 h.offset ++ (number_bytes 8 h.length ++ number_bytes 4 h.versions) ≡ number_bytes 8 k.offset ++ (number_bytes 8 k.length ++ number_bytes 4 k.versions) =
    sym (append_assoc (number_bytes 8 h.offset) (number_bytes 8 h.length) (number_bytes 4 h.versions)) ∙ e ∙ append_assoc (number_bytes 8 k.offset) (number_bytes 8 k.length) (number_bytes 4 k.versions) in
    let u = number_bytes-unique 8 h.offset k.offset (number_bytes 8 h.length ++ number_bytes 4 h.versions) (number_bytes 8 k.length ++ number_bytes 4 k.versions) (omega arith) (omega arith) e1 in
    let v = number_bytes-unique 8 h.length k.length (number_bytes 4 h.versions) (number_bytes 4 k.versions) (omega arith) (omega arith) u.1 in
    let w = number_bytes-unique 4 h.versions k.versions [] [] (omega arith) (omega arith) (append-nil (number_bytes 4 h.versions) ∙ v.1 ∙ sym (append-nil (number_bytes 4 k.versions))) in
    λ i. record { offset = u.0 i; length = v.0 i; versions = w.0 i }

pub handles_once : (hs ks : List BlockHandle) → AllByRecursion IsHandle hs → AllByRecursion IsHandle ks → flat_map handle_bytes hs ≡ flat_map handle_bytes ks → hs ≡ ks
handles_once [] [] x y e = refl
handles_once [] (k ∷ ks) x y e = absurd (omega (arith, ap length e, length-handles_bytes (k ∷ ks)))
handles_once (h ∷ hs) [] x y e = absurd (omega (arith, ap length e, length-handles_bytes (h ∷ hs)))
handles_once (h ∷ hs) (k ∷ ks) x y e =
    let s = cut (handle_bytes h) (handle_bytes k) (flat_map handle_bytes hs) (flat_map handle_bytes ks) (length-handle_bytes h ∙ sym (length-handle_bytes k)) e in
    let a : h ≡ k = handle_once h k x.0 y.0 s.0 in
    let r : hs ≡ ks = handles_once hs ks x.1 y.1 s.1 in
    λ i. a i ∷ r i

-- an index begins with its count
pub index_split : (bytes front rest : List ℕ) (count : ℕ) (hs : List BlockHandle) → bytes ≡ front ++ rest → front ≡ number_bytes 4 count → count < 2 ^ 32 → length hs < 2 ^ 32 → bytes ≡ index hs → (count ≡ length hs) × (rest ≡ flat_map handle_bytes hs)
unfolding index
index_split bytes front rest count hs is front-is small few e =
    number_bytes-unique 4 count (length hs) rest (flat_map handle_bytes hs) (omega arith) (omega arith) (ap (λ (xs : List ℕ). xs ++ rest) (sym front-is) ∙ sym is ∙ e)

pub index_short : (bytes : List ℕ) (hs : List BlockHandle) → bytes ≡ index hs → length bytes ≡ 4 + 20 * length hs
unfolding index
index_short bytes hs e =
    omega (arith, ap length e, length-append (number_bytes 4 (length hs)) (flat_map handle_bytes hs), length-number_bytes 4 (length hs), length-handles_bytes hs)

pub index_there : (bytes front rest : List ℕ) (count : ℕ) (hs : List BlockHandle) → bytes ≡ front ++ rest → front ≡ number_bytes 4 count → length hs ≡ count → rest ≡ flat_map handle_bytes hs → bytes ≡ index hs
unfolding index
index_there bytes front rest count hs is front-is len rest-is =
    is ∙ ap (λ (xs : List ℕ). xs ++ rest) (front-is ∙ ap (number_bytes 4) (sym len)) ∙ ap (λ (xs : List ℕ). number_bytes 4 (length hs) ++ xs) rest-is

-- an index is one of these handles alone
pub index_once : (hs ks : List BlockHandle) → AreHandles hs → AreHandles ks → index hs ≡ index ks → hs ≡ ks
unfolding index
index_once hs ks x y e =
    let xc = x.count in
    let yc = y.count in
    let s = number_bytes-unique 4 (length hs) (length ks) (flat_map handle_bytes hs) (flat_map handle_bytes ks) (omega arith) (omega arith) e in
    handles_once hs ks x.each y.each s.1

-- one handle more of an index that is read
pub handles_read : (rest part : List ℕ) (i : ℕ) (hs : List BlockHandle) (h : BlockHandle) → flat_map handle_bytes hs ≡ take (i * 20) rest → part ≡ slice_range rest (i * 20) (i * 20 + 20) → part ≡ handle_bytes h → flat_map handle_bytes (hs ++ h ∷ []) ≡ take ((i + 1) * 20) rest
handles_read rest part i hs h so_far part-is spelled =
    let size : i * 20 + 20 - i * 20 ≡ 20 = omega arith in
    let more : (i + 1) * 20 ≡ i * 20 + 20 = omega arith in
    handles_bytes_more hs h ∙ ap (λ (xs : List ℕ). xs ++ handle_bytes h) so_far
    ∙ ap (λ (xs : List ℕ). take (i * 20) rest ++ xs) (sym spelled ∙ part-is ∙ ap (λ (n : ℕ). take n (drop (i * 20) rest)) size)
    ∙ sym (take-add (i * 20) 20 rest) ∙ ap (λ (n : ℕ). take n rest) (sym more)
