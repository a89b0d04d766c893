-- Where the parts of a table stand.
use Rattle.std.proofs.Common.{◌≡◌, ℕ, ◌+◌, ◌^◌, ◌<◌, ◌≤◌, List, ◌++◌, length, refl, sym, ap, ◌∙◌, arith, length-append, append_assoc}
use Rattle.ts_key.specs.Numbers.{number_bytes}
use Rattle.ts_key.proofs.NumberBytes.{length-number_bytes, number_bytes-unique}
use Rattle.data_block.proofs.Fielded.{cut}
use Rattle.block_table.specs.Tables.{magic, footer, with_footer}

length-magic : length magic ≡ 8
length-magic = refl

pub length-footer : (a c : ℕ) → length (footer a c) ≡ 24
length-footer a c =
    omega (arith, length-append (number_bytes 8 a ++ number_bytes 8 c) magic, length-append (number_bytes 8 a) (number_bytes 8 c), length-number_bytes 8 a, length-number_bytes 8 c, length-magic)

-- the bytes before a footer, and the footer, cut into its numbers
pub record Split (image front foot first rest second last : List ℕ) (ia pa : ℕ) : Type 0 where
  pub whole : image ≡ front ++ foot
  pub size : length foot ≡ 24
  pub cut_first : foot ≡ first ++ rest
  pub cut_second : rest ≡ second ++ last
  pub index_at : first ≡ number_bytes 8 ia
  pub properties_at : second ≡ number_bytes 8 pa
  pub small_index : ia < 2 ^ 64
  pub small_properties : pa < 2 ^ 64
  pub small : length image < 2 ^ 64

-- what stands there where the image has parts
pub record Footed (front last b i p : List ℕ) (ia pa : ℕ) : Type 0 where
  pub index_at : ia ≡ length b
  pub properties_at : pa ≡ length b + length i
  pub magic_is : last ≡ magic
  pub front_is : front ≡ b ++ i ++ p
  pub long_front : length b + length i ≤ length front

pub footed : (image front foot first rest second last : List ℕ) (ia pa : ℕ) (b i p : List ℕ) → Split image front foot first rest second last ia pa → image ≡ with_footer b i p → Footed front last b i p ia pa
unfolding with_footer
footed image front foot first rest second last ia pa b i p h e =
    let whole = b ++ i ++ p in
    let at = length b in
    let to = length b + length i in
    let own = footer at to in
    let e1 : front ++ foot ≡ whole ++ own = sym h.whole ∙ e in
    let f24 = h.size in
    let whole-len : length whole ≡ at + length i + length p = length-append (b ++ i) p ∙ ap (λ (n : ℕ). n + length p) (length-append b i) in
    let image-len : length image ≡ length whole + 24 = ap length e ∙ length-append whole own ∙ ap (λ (n : ℕ). length whole + n) (length-footer at to) in
    let len : length front ≡ length whole = omega (arith, ap length h.whole, length-append front foot, image-len, f24) in
    let small = h.small in
    let s = cut front whole foot own len e1 in
    let e2 : first ++ rest ≡ number_bytes 8 at ++ (number_bytes 8 to ++ magic) = sym h.cut_first ∙ s.1 ∙ append_assoc (number_bytes 8 at) (number_bytes 8 to) magic in
    let si = h.small_index in
    let sp = h.small_properties in
    let u = number_bytes-unique 8 ia at rest (number_bytes 8 to ++ magic) (omega arith) (omega arith) (ap (λ (xs : List ℕ). xs ++ rest) (sym h.index_at) ∙ e2) in
    let v = number_bytes-unique 8 pa to last magic (omega arith) (omega arith) (ap (λ (xs : List ℕ). xs ++ last) (sym h.properties_at) ∙ sym h.cut_second ∙ u.1) in
    record { index_at = u.0; properties_at = v.0; magic_is = v.1; front_is = s.0; long_front = omega (arith, len, whole-len) }

pub parted : (image front foot first rest second last before props blocks index : List ℕ) (ia pa : ℕ) → Split image front foot first rest second last ia pa → last ≡ magic → front ≡ before ++ props → length before ≡ pa → before ≡ blocks ++ index → length blocks ≡ ia → image ≡ with_footer blocks index props
unfolding with_footer
parted image front foot first rest second last before props blocks index ia pa h last-is front-is before-len before-is blocks-len =
    let to = length blocks + length index in
    let f : front ≡ blocks ++ index ++ props = front-is ∙ ap (λ (xs : List ℕ). xs ++ props) before-is in
    let pa-is : pa ≡ to = omega (arith, ap length before-is, length-append blocks index, before-len) in
    let second-is : second ≡ number_bytes 8 to = h.properties_at ∙ ap (number_bytes 8) pa-is in
    let first-is : first ≡ number_bytes 8 (length blocks) = h.index_at ∙ ap (number_bytes 8) (sym blocks-len) in
    let rest-is : rest ≡ number_bytes 8 to ++ magic = h.cut_second ∙ ap (λ (xs : List ℕ). xs ++ last) second-is ∙ ap (λ (xs : List ℕ). number_bytes 8 to ++ xs) last-is in
    let foot-is : foot ≡ number_bytes 8 (length blocks) ++ (number_bytes 8 to ++ magic) = h.cut_first ∙ ap (λ (xs : List ℕ). xs ++ rest) first-is ∙ ap (λ (xs : List ℕ). number_bytes 8 (length blocks) ++ xs) rest-is in
    h.whole ∙ ap (λ (xs : List ℕ). xs ++ foot) f ∙ ap (λ (xs : List ℕ). (blocks ++ index ++ props) ++ xs) (foot-is ∙ sym (append_assoc (number_bytes 8 (length blocks)) (number_bytes 8 to) magic))

pub long : (image b i p : List ℕ) → image ≡ with_footer b i p → 24 ≤ length image
unfolding with_footer
long image b i p e = let own = footer (length b) (length b + length i) in omega (arith, ap length e, length-append (b ++ i ++ p) own, length-footer (length b) (length b + length i))
