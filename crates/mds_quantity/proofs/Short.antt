-- A short number, read as a word of eight bytes.
use Rattle.std.proofs.Common.{◌≡◌, ℕ, ◌+◌, ◌*◌, ◌/◌, ◌%◌, ◌^◌, ◌<◌, ◌≤◌, ◌==◌, zero, suc, true, List, [], ◌∷◌, length, get_or, pos, Ok, bit_and, refl, sym, ap, ◌∙◌, arith}
use Rattle.std.specs.Char.{is_ascii_digit}
use Rattle.std.specs.List.{before_first, position_or_len}
use Rattle.std.proofs.lemmas.Nat.{and_block, and_mask}
use Rattle.std.proofs.lemmas.Bool.Decides.{nat_tests}
use Rattle.mds_quantity.specs.Quantity.{denoted}
use Rattle.mds_quantity.proofs.Plain.{plain_point}

-- a sum that is 0 has parts that are 0
none_in_sum : (p q : ℕ) → p * 256 + q ≡ 0 → (p ≡ 0) × (q ≡ 0)
none_in_sum p q h = (omega arith, omega arith)

-- a mask of a word that gives nothing gives nothing of its lowest byte, and of those above it
lowest : (y m b : ℕ) → b < 256 → bit_and y (m * 256 + b) ≡ 0 → (bit_and (y / 256) m ≡ 0) × (bit_and (y % 256) b ≡ 0)
lowest y m b s h =
    let parts : y ≡ y / 256 * 256 + y % 256 = omega arith in
    let split = and_block 8 (y / 256) m (y % 256) b (omega arith) s in
    none_in_sum (bit_and (y / 256) m) (bit_and (y % 256) b) (sym split ∙ ap (λ x. bit_and x (m * 256 + b)) (sym parts) ∙ h)

-- a byte whose high four bits are 0
no_high : (b : ℕ) → b < 256 → bit_and b 240 ≡ 0 → b < 16
no_high b s h =
    let parts : b ≡ b / 16 * 16 + b % 16 = omega arith in
    let split = and_block 4 (b / 16) 15 (b % 16) 0 (omega arith) (omega arith) in
    let all : bit_and (b / 16) 15 * 16 + bit_and (b % 16) 0 ≡ 0 = sym split ∙ ap (λ x. bit_and x 240) (sym parts) ∙ h in
    let mask : bit_and (b / 16) 15 ≡ b / 16 % 16 = and_mask (b / 16) 4 in
    omega (arith, all, mask)

-- a byte that is 0
no_byte : (b : ℕ) → b < 256 → bit_and b 255 ≡ 0 → b ≡ 0
no_byte b s h =
    let mask : bit_and b 255 ≡ b % 256 = and_mask b 8 in
    omega (arith, mask, h)

-- the word of bytes a, 0, b, c, d and 0, and of two more in r
abbrev pub word : ℕ → ℕ → ℕ → ℕ → ℕ → ℕ
word a b c d r = a + 256 * (256 * (b + 256 * (c + 256 * (d + 256 * (256 * r)))))

-- what a word has where these bits are 0
record Apart (y : ℕ) : Type 0 where
  a : ℕ
  b : ℕ
  c : ℕ
  d : ℕ
  r : ℕ
  whole : y ≡ word a b c d r
  small : (a < 16) × (b < 16) × (c < 16) × (d < 16)

apart : (y : ℕ) → bit_and y 0xFFF0F0F0FFF0 ≡ 0 → Apart y
apart y h =
    let s0 = lowest y 0xFFF0F0F0FF 0xF0 (omega arith) h in
    let y1 = y / 256 in
    let s1 = lowest y1 0xFFF0F0F0 0xFF (omega arith) s0.0 in
    let y2 = y1 / 256 in
    let s2 = lowest y2 0xFFF0F0 0xF0 (omega arith) s1.0 in
    let y3 = y2 / 256 in
    let s3 = lowest y3 0xFFF0 0xF0 (omega arith) s2.0 in
    let y4 = y3 / 256 in
    let s4 = lowest y4 0xFF 0xF0 (omega arith) s3.0 in
    let y5 = y4 / 256 in
    let s5 = lowest y5 0 0xFF (omega arith) s4.0 in
    let z1 = no_byte (y1 % 256) (omega arith) s1.1 in
    let z5 = no_byte (y5 % 256) (omega arith) s5.1 in
    record {
      a = y % 256;
      b = y2 % 256;
      c = y3 % 256;
      d = y4 % 256;
      r = y5 / 256;
      whole = omega (arith, z1, z5);
      small = (
        no_high (y % 256) (omega arith) s0.1,
        no_high (y2 % 256) (omega arith) s2.1,
        no_high (y3 % 256) (omega arith) s3.1,
        no_high (y4 % 256) (omega arith) s4.1,
      );
    }

-- six more than a digit is below sixteen
digit_of : (z q n m : ℕ) → n < 16 → m < 2 ^ 64 → z ≡ (n + 6) + 256 * q → bit_and z (m * 256 + 0xF0) ≡ 0 → (n < 10) × (bit_and q m ≡ 0)
digit_of z q n m s t e h =
    let low = lowest z m 0xF0 (omega arith) h in
    let rest : z / 256 ≡ q = omega arith in
    let byte : z % 256 ≡ n + 6 = omega arith in
    let few = no_high (n + 6) (omega arith) (ap (λ x. bit_and x 0xF0) (sym byte) ∙ low.1) in
    (omega (arith, few), ap (λ x. bit_and x m) (sym rest) ∙ low.0)

-- a byte that isn't looked at
passed : (z q n m : ℕ) → n < 256 → z ≡ n + 256 * q → bit_and z (m * 256 + 0) ≡ 0 → bit_and q m ≡ 0
passed z q n m s e h =
    let low = lowest z m 0 (omega arith) h in
    let rest : z / 256 ≡ q = omega arith in
    ap (λ x. bit_and x m) (sym rest) ∙ low.0

-- four digits, if the word with a six more at each has no high bits there
all_digits : (a b c d r : ℕ) → a < 16 → b < 16 → c < 16 → d < 16 → bit_and (word (a + 6) (b + 6) (c + 6) (d + 6) r) 0xF0F0F000F0 ≡ 0 → (a < 10) × (b < 10) × (c < 10) × (d < 10)
all_digits a b c d r sa sb sc sd h =
    let q5 = 256 * r in
    let q4 = (d + 6) + 256 * q5 in
    let q3 = (c + 6) + 256 * q4 in
    let q2 = (b + 6) + 256 * q3 in
    let q1 = 256 * q2 in
    let first = digit_of (word (a + 6) (b + 6) (c + 6) (d + 6) r) q1 a 0xF0F0F000 sa (omega arith) refl h in
    let point = passed q1 q2 0 0xF0F0F0 (omega arith) (omega arith) first.1 in
    let second = digit_of q2 q3 b 0xF0F0 sb (omega arith) refl point in
    let third = digit_of q3 q4 c 0xF0 sc (omega arith) refl second.1 in
    let fourth = digit_of q4 q5 d 0 sd (omega arith) refl third.1 in
    (first.0, second.0, third.0, fourth.0)

-- two numbers that agree have the same lowest byte, and the same above it
same : (a b c d : ℕ) → a < 256 → c < 256 → a + 256 * b ≡ c + 256 * d → (a ≡ c) × (b ≡ d)
same a b c d s t e = (omega arith, omega arith)

-- what the bytes of a text's front are
pub record IsShort (y t0 t1 t2 t3 t4 t5 : ℕ) : Type 0 where
  pub a : ℕ
  pub b : ℕ
  pub c : ℕ
  pub d : ℕ
  pub r : ℕ
  pub whole : y ≡ word a b c d r
  pub small : (a < 10) × (b < 10) × (c < 10) × (d < 10) × (r < 65536)
  pub first : t0 ≡ a + 48
  pub point : t1 ≡ 46
  pub second : t2 ≡ b + 48
  pub third : t3 ≡ c + 48
  pub fourth : t4 ≡ d + 48
  pub comma : t5 ≡ 44

-- the word of a text that passes both tests
pub is_short : (x y t0 t1 t2 t3 t4 t5 t6 t7 : ℕ) → t0 < 256 → t1 < 256 → t2 < 256 → t3 < 256 → t4 < 256 → t5 < 256 → t6 < 256 → t7 < 256
    → x ≡ t0 + 256 * (t1 + 256 * (t2 + 256 * (t3 + 256 * (t4 + 256 * (t5 + 256 * (t6 + 256 * t7))))))
    → y ≡ (x + 18446695488231035344) % 18446744073709551616
    → bit_and y 0xFFF0F0F0FFF0 ≡ 0
    → bit_and ((y + 25870860294) % 18446744073709551616) 0xF0F0F000F0 ≡ 0
    → IsShort y t0 t1 t2 t3 t4 t5
is_short x y t0 t1 t2 t3 t4 t5 t6 t7 s0 s1 s2 s3 s4 s5 s6 s7 ex ey zeros tens =
    let p = apart y zeros in
    let limited : y < 18446744073709551616 = omega arith in
    let rest : p.r < 65536 = omega (arith, p.whole, limited) in
    let more : (y + 25870860294) % 18446744073709551616 ≡ word (p.a + 6) (p.b + 6) (p.c + 6) (p.d + 6) p.r = omega (arith, p.whole, p.small) in
    let digits = all_digits p.a p.b p.c p.d p.r p.small.0 p.small.1 p.small.2 p.small.3 (ap (λ z. bit_and z 0xF0F0F000F0) (sym more) ∙ tens) in
    let within : x < 18446744073709551616 = omega arith in
    let back : x ≡ y + 48585478516272 = omega (arith, ey, within, p.whole, p.small, rest) in
    let bytes : t0 + 256 * (t1 + 256 * (t2 + 256 * (t3 + 256 * (t4 + 256 * (t5 + 256 * (t6 + 256 * t7))))))
    ≡ (p.a + 48) + 256 * (46 + 256 * ((p.b + 48) + 256 * ((p.c + 48) + 256 * ((p.d + 48) + 256 * (44 + 256 * p.r))))) = omega (arith, ex, back, p.whole) in
    let e0 = same t0 _ (p.a + 48) _ s0 (omega (arith, digits.0)) bytes in
    let e1 = same t1 _ 46 _ s1 (omega arith) e0.1 in
    let e2 = same t2 _ (p.b + 48) _ s2 (omega (arith, digits.1)) e1.1 in
    let e3 = same t3 _ (p.c + 48) _ s3 (omega (arith, digits.2)) e2.1 in
    let e4 = same t4 _ (p.d + 48) _ s4 (omega (arith, digits.3)) e3.1 in
    let e5 = same t5 _ 44 _ s5 (omega arith) e4.1 in
    record {
      a = p.a;
      b = p.b;
      c = p.c;
      d = p.d;
      r = p.r;
      whole = p.whole;
      small = (digits.0, digits.1, digits.2, digits.3, rest);
      first = e0.0;
      point = e1.0;
      second = e2.0;
      third = e3.0;
      fourth = e4.0;
      comma = e5.0;
    }

-- the digits at even places
even : (a b c d r : ℕ) → a < 10 → b < 10 → c < 10 → d < 10 → bit_and (word a b c d r) 64425492495 ≡ a + 65536 * (b + 65536 * d)
even a b c d r sa sb sc sd =
    let high = d + 65536 * r in
    let low = (b + 256 * c) * 65536 + a in
    let parts : word a b c d r ≡ high * 4294967296 + low = omega arith in
    let halves = and_block 32 high 15 low 983055 (omega arith) (omega arith) in
    let quarters = and_block 16 (b + 256 * c) 15 a 15 (omega arith) (omega arith) in
    let top : bit_and high 15 ≡ high % 16 = and_mask high 4 in
    let middle : bit_and (b + 256 * c) 15 ≡ (b + 256 * c) % 16 = and_mask (b + 256 * c) 4 in
    let bottom : bit_and a 15 ≡ a % 16 = and_mask a 4 in
    let t : bit_and high 15 ≡ d = omega (arith, top) in
    let m : bit_and (b + 256 * c) 15 ≡ b = omega (arith, middle) in
    let o : bit_and a 15 ≡ a = omega (arith, bottom) in
    ap (λ x. bit_and x 64425492495) parts ∙ halves ∙ (λ i. t i * 4294967296 + quarters i)
    ∙ (λ i. d * 4294967296 + (m i * 65536 + o i)) ∙ omega arith

weighed : (a b d : ℕ) → a < 10 → b < 10 → d < 10 → (a + 65536 * (b + 65536 * d)) * 4294973849601 % 18446744073709551616 / 4294967296 % 65536 ≡ 1000 * a + 100 * b + d
weighed a b d sa sb sd =
    let high = 1000 * b + 100 * d + 65536 * (1000 * d) in
    let value = 1000 * a + 100 * b + d in
    let low = a + 65536 * (100 * a + b) in
    let all : (a + 65536 * (b + 65536 * d)) * 4294973849601 ≡ (1000 * d) * 18446744073709551616 + ((1000 * b + 100 * d) * 281474976710656 + (value * 4294967296 + low)) = omega arith in
    omega (arith, all)

odd : (a b c d r : ℕ) → a < 10 → b < 10 → c < 10 → d < 10 → bit_and (word a b c d r / 16777216) 15 ≡ c
odd a b c d r sa sb sc sd =
    let low = a + 65536 * b in
    let parts : word a b c d r ≡ (c + 256 * (d + 65536 * r)) * 16777216 + low = omega arith in
    let down : word a b c d r / 16777216 ≡ c + 256 * (d + 65536 * r) = omega (arith, parts) in
    let mask : bit_and (word a b c d r / 16777216) 15 ≡ word a b c d r / 16777216 % 16 = and_mask (word a b c d r / 16777216) 4 in
    omega (arith, mask, down)

-- what is computed from a word of digits
pub worth : (y a b c d r : ℕ) → y ≡ word a b c d r → a < 10 → b < 10 → c < 10 → d < 10
    → (bit_and (bit_and y 64425492495 * 4294973849601 % 18446744073709551616 / 4294967296) 65535 + bit_and (y / 16777216) 15 * 10) * 1000 ≡ a * 1000000 + (b * 100 + c * 10 + d) * 1000
worth y a b c d r e sa sb sc sd =
    let x = bit_and y 64425492495 in
    let spread : x ≡ a + 65536 * (b + 65536 * d) = ap (λ z. bit_and z 64425492495) e ∙ even a b c d r sa sb sc sd in
    let mask : bit_and (x * 4294973849601 % 18446744073709551616 / 4294967296) 65535 ≡ x * 4294973849601 % 18446744073709551616 / 4294967296 % 65536 =
    and_mask (x * 4294973849601 % 18446744073709551616 / 4294967296) 16 in
    let three : bit_and (x * 4294973849601 % 18446744073709551616 / 4294967296) 65535 ≡ 1000 * a + 100 * b + d =
    mask ∙ ap (λ z. z * 4294973849601 % 18446744073709551616 / 4294967296 % 65536) spread ∙ weighed a b d sa sb sd in
    let one : bit_and (y / 16777216) 15 ≡ c = ap (λ z. bit_and (z / 16777216) 15) e ∙ odd a b c d r sa sb sc sd in
    omega (arith, three, one)

digit_there : (t n : ℕ) → t ≡ n + 48 → n < 10 → is_ascii_digit t ≡ true
digit_there t n e s = grind (arith, nat_tests)

one_place : (k a : ℕ) (rest : List ℕ) → k < 1 → is_ascii_digit a ≡ true → is_ascii_digit (get_or (a ∷ rest) k 0) ≡ true
one_place zero a rest h d = d
one_place (suc k) a rest h d = absurd (omega arith)

three_places : (k a b c : ℕ) (rest : List ℕ) → k < 3 → is_ascii_digit a ≡ true → is_ascii_digit b ≡ true → is_ascii_digit c ≡ true → is_ascii_digit (get_or (a ∷ b ∷ c ∷ rest) k 0) ≡ true
three_places zero a b c rest h x y z = x
three_places (suc zero) a b c rest h x y z = y
three_places (suc (suc zero)) a b c rest h x y z = z
three_places (suc (suc (suc k))) a b c rest h x y z = absurd (omega arith)

-- the field that these bytes begin
of_bytes : (t0 t1 t2 t3 t4 t5 : ℕ) (rest : List ℕ) (a b c d : ℕ) → t0 ≡ a + 48 → t1 ≡ 46 → t2 ≡ b + 48 → t3 ≡ c + 48 → t4 ≡ d + 48 → t5 ≡ 44 → a < 10 → b < 10 → c < 10 → d < 10
    → (position_or_len (λ c. c == 44) (t0 ∷ t1 ∷ t2 ∷ t3 ∷ t4 ∷ t5 ∷ rest) ≡ 5) × (Ok (pos (a * 1000000 + (b * 100 + c * 10 + d) * 1000)) ≡ denoted (before_first (λ c. c == 44) (t0 ∷ t1 ∷ t2 ∷ t3 ∷ t4 ∷ t5 ∷ rest)))
of_bytes t0 t1 t2 t3 t4 t5 rest a b c d e0 e1 e2 e3 e4 e5 sa sb sc sd =
    let text = t0 ∷ t1 ∷ t2 ∷ t3 ∷ t4 ∷ t5 ∷ rest in
    let after = t2 ∷ t3 ∷ t4 ∷ t5 ∷ rest in
    plain_point text after 1 3 a (b * 100 + c * 10 + d) (omega arith) (omega arith)
    (λ k h. one_place k t0 (t1 ∷ after) h (digit_there t0 a e0 sa)) e1 refl (omega arith) (omega arith)
    (λ k h. three_places k t2 t3 t4 (t5 ∷ rest) h (digit_there t2 b e2 sb) (digit_there t3 c e3 sc) (digit_there t4 d e4 sd))
    e5 (omega arith) (omega arith) (omega arith) (omega arith)

pub short_field : (text : List ℕ) (y : ℕ) → 8 ≤ length text → IsShort y (get_or text 0 0) (get_or text 1 0) (get_or text 2 0) (get_or text 3 0) (get_or text 4 0) (get_or text 5 0)
    → (position_or_len (λ c. c == 44) text ≡ 5)
    × (Ok (pos ((bit_and (bit_and y 64425492495 * 4294973849601 % 18446744073709551616 / 4294967296) 65535 + bit_and (y / 16777216) 15 * 10) * 1000)) ≡ denoted (before_first (λ c. c == 44) text))
short_field [] y h s = absurd (omega arith)
short_field (a ∷ []) y h s = absurd (omega arith)
short_field (a ∷ b ∷ []) y h s = absurd (omega arith)
short_field (a ∷ b ∷ c ∷ []) y h s = absurd (omega arith)
short_field (a ∷ b ∷ c ∷ d ∷ []) y h s = absurd (omega arith)
short_field (a ∷ b ∷ c ∷ d ∷ e ∷ []) y h s = absurd (omega arith)
short_field (a ∷ b ∷ c ∷ d ∷ e ∷ f ∷ rest) y h s =
    let digits = s.small in
    let known = of_bytes a b c d e f rest s.a s.b s.c s.d s.first s.point s.second s.third s.fourth s.comma digits.0 digits.1 digits.2 digits.3 in
    let value = worth y s.a s.b s.c s.d s.r s.whole digits.0 digits.1 digits.2 digits.3 in
    (known.0, ap (λ m. Ok (pos m)) value ∙ known.1)
