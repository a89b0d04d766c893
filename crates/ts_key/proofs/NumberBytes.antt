-- Numbers and their bytes, one for the other.
use Rattle.std.proofs.Common.{◌/◌, ◌%◌, ◌≡◌, ℕ, zero, suc, ◌+◌, ◌*◌, ◌^◌, ◌<◌, List, [], ◌∷◌, ◌++◌, length, get_or, refl, sym, ap, ◌∙◌, arith, length-append}
use Rattle.std.proofs.Math.Nat.{pow-succ', div-div-eq-div-mul}
use Rattle.std.proofs.lemmas.List.{append_cancel_left}
use Rattle.std.specs.Int.{byte_at, bytes_low_first}
use Rattle.byteorder.specs.Endian.{little_bytes, little_number}
use Rattle.byteorder.specs.Numbers.{little_number-reads_back, length-bytes_low_first, little_from-cons}
use Rattle.ts_key.specs.Numbers.{number_bytes}
use Rattle.ts_key.specs.Reading.{SpellsNone}

-- a digit, and the number above it
low_digit : (b y : ℕ) → b < 256 → (b + 256 * y) % 256 ≡ b
low_digit b y h = omega arith

high_digits : (b y : ℕ) → b < 256 → (b + 256 * y) / 256 ≡ y
high_digits b y h = omega arith

byte_up : (i n : ℕ) → byte_at (suc i) n ≡ byte_at i (n / 256)
byte_up zero n = refl
byte_up (suc i) n =
    ap (λ (y : ℕ). y % 256) (ap (λ (p : ℕ). n / p) (pow-succ' 256 (suc i)) ∙ sym (div-div-eq-div-mul n 256 (256 ^ suc i)))

-- the bytes from the second on are those of the number above the first
bytes_up : (i k n : ℕ) → bytes_low_first (suc i) k n ≡ bytes_low_first i k (n / 256)
bytes_up i zero n = refl
bytes_up i (suc k) n =
    ap (λ (b : ℕ). b ∷ bytes_low_first (suc (suc i)) k n) (byte_up i n) ∙ ap (λ (bs : List ℕ). byte_at i (n / 256) ∷ bs) (bytes_up (suc i) k n)

-- the bytes of the number that these bytes are
bytes-number : (n : ℕ) (bs : List ℕ) (x : ℕ) → length bs ≡ n → ((i : ℕ) → get_or bs i 0 < 256) → x ≡ little_number n bs → bs ≡ little_bytes n x
bytes-number zero [] x len fits is = refl
bytes-number zero (b ∷ bs) x len fits is = absurd (omega arith)
bytes-number (suc n) [] x len fits is = absurd (omega arith)
bytes-number (suc n) (b ∷ bs) x len fits is =
    let moved = little_from-cons 0 n b bs in
    let low : b < 256 = fits 0 in
    let whole : x ≡ b + 256 * little_number n bs = is ∙ ap (λ (r : ℕ). b + 256 * r) moved in
    let first : x % 256 ≡ b = ap (λ (y : ℕ). y % 256) whole ∙ low_digit b (little_number n bs) low in
    let above : x / 256 ≡ little_number n bs = ap (λ (y : ℕ). y / 256) whole ∙ high_digits b (little_number n bs) low in
    let rest = bytes-number n bs (x / 256) (omega arith) (λ i. fits (suc i)) above in
    ap (λ (c : ℕ). c ∷ bs) (sym first) ∙ ap (λ (cs : List ℕ). x % 256 ∷ cs) (rest ∙ sym (bytes_up 0 n x))

-- what a number reads as is spelled by its bytes
pub number_bytes-read : (n : ℕ) (bs : List ℕ) (x : ℕ) → length bs ≡ n → ((i : ℕ) → get_or bs i 0 < 256) → x ≡ little_number n bs → bs ≡ number_bytes n x
unfolding number_bytes
number_bytes-read n bs x len fits is = bytes-number n bs x len fits is

pub length-number_bytes : (n x : ℕ) → length (number_bytes n x) ≡ n
unfolding number_bytes
length-number_bytes n x = length-bytes_low_first 0 n x

-- A number is known by its bytes, and what stands behind them too.
pub number_bytes-unique : (n x y : ℕ) (r s : List ℕ) → x < 256 ^ n → y < 256 ^ n → number_bytes n x ++ r ≡ number_bytes n y ++ s → (x ≡ y) × (r ≡ s)
unfolding number_bytes
number_bytes-unique n x y r s fits_x fits_y same =
    let number : x ≡ y = sym (little_number-reads_back n x r fits_x) ∙ ap (little_number n) same ∙ little_number-reads_back n y s fits_y in
    (number, append_cancel_left (little_bytes n y) r s (ap (λ (z : ℕ). little_bytes n z ++ r) (sym number) ∙ same))

-- fewer bytes spell no number at their front
pub too_few : (n bound : ℕ) (bytes : List ℕ) → length bytes < n → SpellsNone (number_bytes n) (λ x. x < bound) bytes
too_few n bound bytes short x rest within is = absurd (omega (arith, ap length is, length-append (number_bytes n x) rest, length-number_bytes n x))
