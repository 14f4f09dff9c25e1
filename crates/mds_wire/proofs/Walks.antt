-- What a walk of matchit finds among rows in which a parameter is a whole part of a path, and of which no two part where one
-- has a parameter and the other a byte: the first row that takes the path. Tokens up to 255 are bytes, 256 is a parameter.
use Rattle.std.proofs.Common.{◌≡◌, ◌≢◌, ℕ, zero, suc, ◌-◌, ◌<◌, ◌≤◌, List, [], ◌∷◌, length, drop, Option, Some, None, Bool, true, false, cond, ltb, not, ◌&&◌, ◌==◌, ◌⊎◌, inl, inr, refl, sym, ap, ◌∙◌, arith}
use Rattle.std.proofs.lemmas.Bool.Decides.{nat_tests}
use Rattle.std.proofs.lemmas.List.{drop_all}
use Rattle.matchit.specs.Rows.{RowsOf}
use Rattle.matchit.specs.Seek.{own, step, or_else, seek, param_step, has_slash, segment, cuts, longest_from, longest_suffix, with_suffix, same_text}
use Rattle.matchit.specs.Level.{IsText}

-- what stands behind the first part of a path
abbrev pub behind : List ℕ → List ℕ
behind [] = []
behind (b ∷ path) = cond (b == 47) (b ∷ path) (behind path)

-- a pattern takes a path: a parameter the first part of it, if that isn't empty, any other token itself
abbrev pub takes : List ℕ → List ℕ → Bool
takes [] [] = true
takes [] (b ∷ path) = false
takes (x ∷ t) [] = false
takes (x ∷ t) (b ∷ path) = cond (x == 256) (not (b == 47) && takes t (behind path)) (x == b && takes t path)

-- a parameter is followed by a slash or by nothing, and no token takes more than a part
abbrev ends_part : List ℕ → Bool
ends_part [] = true
ends_part (x ∷ t) = x == 47

abbrev pub is_plain : List ℕ → Bool
is_plain [] = true
is_plain (x ∷ t) = cond (x == 256) (ends_part t) (ltb x 256) && is_plain t

-- where two patterns part, neither has a parameter
abbrev pub agree : List ℕ → List ℕ → Bool
agree [] u = true
agree (x ∷ t) [] = true
agree (x ∷ t) (y ∷ u) = cond (x == y) (agree t u) (not (x == 256) && not (y == 256))

pub both : (a b : Bool) → (a && b) ≡ true → (a ≡ true) × (b ≡ true)
both true b h = (refl, h)
both false b h = cc

join : (a b : Bool) → a ≡ true → b ≡ true → (a && b) ≡ true
join a b h k = rw (h, k) refl

same : (x : ℕ) → (x == x) ≡ true
same x = grind (arith, nat_tests)

below : (b : ℕ) → b < 256 → b ≢ 256
below b lt q = omega arith

above : (b : ℕ) → 256 < b → b ≢ 256
above b lt q = omega arith

-- a segment of one byte or more ends with a slash where the path has one
cuts-more : (b c d : ℕ) (s : List ℕ) → cuts (b ∷ c ∷ d ∷ s) (47 ∷ []) ≡ cuts (c ∷ d ∷ s) (47 ∷ [])
cuts-more b c d s =
    let n = length s in
    let e : suc (suc (suc n)) - 1 ≡ suc (suc n) = omega arith in
    let f : suc (suc n) - 1 ≡ suc n = omega arith in
    let t : ltb 1 (suc (suc (suc n))) ≡ true = grind (arith, nat_tests) in
    let u : ltb 1 (suc (suc n)) ≡ true = grind (arith, nat_tests) in
    rw (e, f, t, u) refl

cuts-slash : (b : ℕ) (path : List ℕ) → cuts (b ∷ segment path) (47 ∷ []) ≡ has_slash path
cuts-slash b [] = refl
cuts-slash b (c ∷ path) = by (c == 47) refl path (cuts-slash c path)
  where
    by : (v : Bool) → (c == 47) ≡ v → (path : List ℕ) → cuts (c ∷ segment path) (47 ∷ []) ≡ has_slash path
        → cuts (b ∷ cond v (c ∷ []) (c ∷ segment path)) (47 ∷ []) ≡ cond v true (has_slash path)
    by true e path ih = grind (arith, nat_tests)
    by false e [] ih = grind (arith, nat_tests)
    by false e (d ∷ path) ih =
        elim (d == 47) as (λ v. cuts (c ∷ cond v (d ∷ []) (d ∷ segment path)) (47 ∷ []) ≡ cond v true (has_slash path) → cuts (b ∷ c ∷ cond v (d ∷ []) (d ∷ segment path)) (47 ∷ []) ≡ cond v true (has_slash path)) [
          | true ↦ λ h. cuts-more b c d [] ∙ h
          | false ↦ λ h. cuts-more b c d (segment path) ∙ h
        ] ih

some-segment : (path : List ℕ) → has_slash path ≡ true → 0 < length (segment path)
some-segment [] h = cc
some-segment (b ∷ path) h =
    elim (b == 47) as (λ v. 0 < length (cond v (b ∷ []) (b ∷ segment path))) [
      | true ↦ omega arith
      | false ↦ omega arith
    ]

-- a segment without its slash is the part
behind-slash : (path : List ℕ) → has_slash path ≡ true → drop (length (segment path) - 1) path ≡ behind path
behind-slash [] h = cc
behind-slash (b ∷ path) h = by (b == 47) h (behind-slash path)
  where
    by : (v : Bool) → cond v true (has_slash path) ≡ true → (has_slash path ≡ true → drop (length (segment path) - 1) path ≡ behind path)
        → drop (length (cond v (b ∷ []) (b ∷ segment path)) - 1) (b ∷ path) ≡ cond v (b ∷ path) (behind path)
    by true h ih = refl
    by false h ih =
        let some = some-segment path h in
        let e : suc (length (segment path)) - 1 ≡ suc (length (segment path) - 1) = omega arith in
        rw e (ih h)

behind-begins : (path : List ℕ) → has_slash path ≡ true → behind path ≡ 47 ∷ drop 1 (behind path)
behind-begins [] h = cc
behind-begins (b ∷ path) h = by (b == 47) refl h (behind-begins path)
  where
    by : (v : Bool) → (b == 47) ≡ v → cond v true (has_slash path) ≡ true → (has_slash path ≡ true → behind path ≡ 47 ∷ drop 1 (behind path))
        → cond v (b ∷ path) (behind path) ≡ 47 ∷ drop 1 (cond v (b ∷ path) (behind path))
    by true e h ih =
        let is : b ≡ 47 = grind (arith, nat_tests) in
        ap (λ x. x ∷ path) is
    by false e h ih = ih h

behind-text : (path : List ℕ) → IsText path → (length (behind path) ≤ length path) × IsText (behind path)
behind-text [] t = (omega arith, tt)
behind-text (b ∷ path) t = by (b == 47) (behind-text path t.1)
  where
    by : (v : Bool) → (length (behind path) ≤ length path) × IsText (behind path) → (length (cond v (b ∷ path) (behind path)) ≤ length (b ∷ path)) × IsText (cond v (b ∷ path) (behind path))
    by true ih = (omega arith, t)
    by false ih = (let le = ih.0 in omega arith, ih.1)

behind-none : (path : List ℕ) → has_slash path ≡ false → behind path ≡ []
behind-none [] h = refl
behind-none (b ∷ path) h = by (b == 47) h (behind-none path)
  where
    by : (v : Bool) → cond v true (has_slash path) ≡ false → (has_slash path ≡ false → behind path ≡ []) → cond v (b ∷ path) (behind path) ≡ []
    by true h ih = cc
    by false h ih = ih h

module _ {K : Type 0} where
  abbrev pub agrees : List ℕ → RowsOf K → Bool
  agrees t [] = true
  agrees t ((u, k) ∷ rs) = agree t u && agrees t rs

  -- the rows that this file is about
  abbrev pub AreGood : RowsOf K → Type 0
  AreGood [] = Unit {0}
  AreGood ((t, k) ∷ rs) = (is_plain t ≡ true) × (agrees t rs ≡ true) × AreGood rs

  -- what is left of each row behind a parameter
  abbrev AllEnd : RowsOf K → Type 0
  AllEnd [] = Unit {0}
  AllEnd ((t, k) ∷ rs) = (ends_part t ≡ true) × AllEnd rs

  -- the first row that takes the path
  abbrev pub found : RowsOf K → List ℕ → Option K
  found [] path = None
  found ((t, k) ∷ rs) path = cond (takes t path) (Some k) (found rs path)

  -- the walk where it finds nothing, and past what is skipped
  param_step-none : (path : List ℕ) → (param_step {K = K} [] path).1 ≡ []
  unfolding param_step
  param_step-none path =
      elim (has_slash path) as (λ v. (cond {A = ℕ × RowsOf K} v (0, []) (length path, [])).1 ≡ []) [
        | true ↦ refl
        | false ↦ refl
      ]

  seek-none : (n : ℕ) (path : List ℕ) → seek {K = K} n [] path ≡ None
  unfolding seek
  seek-none n [] = refl
  seek-none (suc n) (b ∷ path) = seek-none n path
  seek-none zero (b ∷ path) = simp (seek-none 0 path, param_step-none (b ∷ path), seek-none ((param_step {K = K} [] (b ∷ path)).0 - 1) path)

  seek-skip : (n : ℕ) (rs : RowsOf K) (path : List ℕ) → seek n rs path ≡ seek 0 rs (drop n path)
  unfolding seek
  seek-skip zero rs path = refl
  seek-skip (suc n) rs [] = refl
  seek-skip (suc n) rs (b ∷ path) = seek-skip n rs path

  -- at the end of the path
  own-found : (rs : RowsOf K) → own rs ≡ found rs []
  own-found [] = refl
  own-found (([], k) ∷ rs) = refl
  own-found ((x ∷ t, k) ∷ rs) = own-found rs

  -- no row has a catch-all
  no_catch_all : (rs : RowsOf K) → AreGood rs → step 257 rs ≡ []
  no_catch_all [] g = refl
  no_catch_all (([], k) ∷ rs) g = no_catch_all rs g.2
  no_catch_all ((x ∷ t, k) ∷ rs) g =
      by (x == 257) refl (x == 256) refl (no_catch_all rs g.2) (both (cond (x == 256) (ends_part t) (ltb x 256)) (is_plain t) g.0).0
    where
      by : (v : Bool) → (x == 257) ≡ v → (w : Bool) → (x == 256) ≡ w → step 257 rs ≡ [] → cond w (ends_part t) (ltb x 256) ≡ true
          → cond v ((t, k) ∷ step 257 rs) (step 257 rs) ≡ []
      by false e w f rest plain = rest
      by true e true f rest plain = absurd (grind (arith, nat_tests))
      by true e false f rest plain = absurd (grind (arith, nat_tests))

  -- the rows go on with bytes alone, or with a parameter alone
  abbrev IsParam : RowsOf K → Type 0
  IsParam rs = (b : ℕ) → b ≢ 256 → step b rs ≡ []

  beside_bytes : (x : ℕ) (t : List ℕ) (rs : RowsOf K) → x ≢ 256 → agrees (x ∷ t) rs ≡ true → step 256 rs ≡ []
  beside_bytes x t [] n a = refl
  beside_bytes x t (([], k) ∷ rs) n a = beside_bytes x t rs n a
  beside_bytes x t ((y ∷ u, k) ∷ rs) n a =
      let h = both (agree (x ∷ t) (y ∷ u)) (agrees (x ∷ t) rs) a in
      by (y == 256) refl (x == y) refl h.0 (beside_bytes x t rs n h.1)
    where
      by : (v : Bool) → (y == 256) ≡ v → (w : Bool) → (x == y) ≡ w → cond w (agree t u) (not (x == 256) && not v) ≡ true → step 256 rs ≡ []
          → cond v ((u, k) ∷ step 256 rs) (step 256 rs) ≡ []
      by false e w f h rest = rest
      by true e true f h rest = absurd (n (grind (arith, nat_tests)))
      by true e false f h rest = absurd (grind (arith, nat_tests))

  beside_param : (t : List ℕ) (rs : RowsOf K) → agrees (256 ∷ t) rs ≡ true → IsParam rs
  beside_param t [] a = λ b n. refl
  beside_param t (([], k) ∷ rs) a = beside_param t rs a
  beside_param t ((y ∷ u, k) ∷ rs) a = λ b n.
      let h = both (agree (256 ∷ t) (y ∷ u)) (agrees (256 ∷ t) rs) a in
      by b n (y == b) refl (256 == y) refl h.0 (beside_param t rs h.1 b n)
    where
      by : (b : ℕ) → b ≢ 256 → (v : Bool) → (y == b) ≡ v → (w : Bool) → (256 == y) ≡ w → cond w (agree t u) false ≡ true → step b rs ≡ []
          → cond v ((u, k) ∷ step b rs) (step b rs) ≡ []
      by b n false e w f h rest = rest
      by b n true e true f h rest = absurd (n (grind (arith, nat_tests)))
      by b n true e false f h rest = cc

  only_one : (rs : RowsOf K) → AreGood rs → (step 256 rs ≡ []) ⊎ IsParam rs
  only_one [] g = inl refl
  only_one (([], k) ∷ rs) g = only_one rs g.2
  only_one ((x ∷ t, k) ∷ rs) g = by (x == 256) refl
    where
      by : (v : Bool) → (x == 256) ≡ v → (cond v ((t, k) ∷ step 256 rs) (step 256 rs) ≡ []) ⊎ ((b : ℕ) → b ≢ 256 → cond (x == b) ((t, k) ∷ step b rs) (step b rs) ≡ [])
      by false e = inl (beside_bytes x t rs (λ q. grind (arith, nat_tests)) g.1)
      by true e =
          let is : x ≡ 256 = grind (arith, nat_tests) in
          let a : agrees (256 ∷ t) rs ≡ true = rw is at g.1 in
          inr (λ b n. let f : (x == b) ≡ false = grind (arith, nat_tests) in rw f (beside_param t rs a b n))

  -- a step keeps what is good
  agrees-step : (b : ℕ) (t : List ℕ) (rs : RowsOf K) → agrees (b ∷ t) rs ≡ true → agrees t (step b rs) ≡ true
  agrees-step b t [] a = refl
  agrees-step b t (([], k) ∷ rs) a = agrees-step b t rs a
  agrees-step b t ((y ∷ u, k) ∷ rs) a =
      let h = both (agree (b ∷ t) (y ∷ u)) (agrees (b ∷ t) rs) a in
      by (y == b) refl (b == y) refl h.0 (agrees-step b t rs h.1)
    where
      by : (v : Bool) → (y == b) ≡ v → (w : Bool) → (b == y) ≡ w → cond w (agree t u) (not (b == 256) && not (y == 256)) ≡ true → agrees t (step b rs) ≡ true
          → agrees t (cond v ((u, k) ∷ step b rs) (step b rs)) ≡ true
      by false e w f h rest = rest
      by true e true f h rest = join _ _ h rest
      by true e false f h rest = absurd (grind (arith, nat_tests))

  good-step : (b : ℕ) (rs : RowsOf K) → AreGood rs → AreGood (step b rs)
  good-step b [] g = tt
  good-step b (([], k) ∷ rs) g = good-step b rs g.2
  good-step b ((x ∷ t, k) ∷ rs) g = by (x == b) refl (good-step b rs g.2)
    where
      by : (v : Bool) → (x == b) ≡ v → AreGood (step b rs) → AreGood (cond v ((t, k) ∷ step b rs) (step b rs))
      by false e rest = rest
      by true e rest =
          let is : x ≡ b = grind (arith, nat_tests) in (
            (both (cond (x == 256) (ends_part t) (ltb x 256)) (is_plain t) g.0).1,
            agrees-step b t rs (rw is at g.1),
            rest,
          )

  agrees-suffix : (s t : List ℕ) (rs : RowsOf K) → agrees t rs ≡ true → agrees t (with_suffix s rs) ≡ true
  agrees-suffix s t [] a = refl
  agrees-suffix s t ((u, k) ∷ rs) a =
      let h = both (agree t u) (agrees t rs) a in
      elim (same_text (segment u) s) as (λ v. agrees t (cond v ((u, k) ∷ with_suffix s rs) (with_suffix s rs)) ≡ true) [
        | true ↦ join _ _ h.0 (agrees-suffix s t rs h.1)
        | false ↦ agrees-suffix s t rs h.1
      ]

  good-suffix : (s : List ℕ) (rs : RowsOf K) → AreGood rs → AreGood (with_suffix s rs)
  good-suffix s [] g = tt
  good-suffix s ((t, k) ∷ rs) g =
      elim (same_text (segment t) s) as (λ v. AreGood (cond v ((t, k) ∷ with_suffix s rs) (with_suffix s rs))) [
        | true ↦ (g.0, agrees-suffix s t rs g.1, good-suffix s rs g.2)
        | false ↦ good-suffix s rs g.2
      ]

  -- behind a parameter its part is at its end
  all_end : (rs : RowsOf K) → AreGood rs → AllEnd (step 256 rs)
  all_end [] g = tt
  all_end (([], k) ∷ rs) g = all_end rs g.2
  all_end ((x ∷ t, k) ∷ rs) g = by (x == 256) (both (cond (x == 256) (ends_part t) (ltb x 256)) (is_plain t) g.0).0 (all_end rs g.2)
    where
      by : (v : Bool) → cond v (ends_part t) (ltb x 256) ≡ true → AllEnd (step 256 rs) → AllEnd (cond v ((t, k) ∷ step 256 rs) (step 256 rs))
      by false h rest = rest
      by true h rest = (h, rest)

  -- a row that takes the path goes on with its first byte, or with a parameter
  found-byte : (b : ℕ) (path : List ℕ) (rs : RowsOf K) → step 256 rs ≡ [] → found rs (b ∷ path) ≡ found (step b rs) path
  found-byte b path [] e = refl
  found-byte b path (([], k) ∷ rs) e = found-byte b path rs e
  found-byte b path ((x ∷ t, k) ∷ rs) e = by (x == 256) e (λ f. found-byte b path rs f)
    where
      by : (v : Bool) → cond v ((t, k) ∷ step 256 rs) (step 256 rs) ≡ [] → (step 256 rs ≡ [] → found rs (b ∷ path) ≡ found (step b rs) path)
          → cond (cond v (not (b == 47) && takes t (behind path)) (x == b && takes t path)) (Some k) (found rs (b ∷ path)) ≡ found (cond (x == b) ((t, k) ∷ step b rs) (step b rs)) path
      by true e rest = cc
      by false e rest =
          elim (x == b) as (λ v. cond (v && takes t path) (Some k) (found rs (b ∷ path)) ≡ found (cond v ((t, k) ∷ step b rs) (step b rs)) path) [
            | true ↦ ap (λ o. cond (takes t path) (Some k) o) (rest e)
            | false ↦ rest e
          ]

  found-param : (b : ℕ) (path : List ℕ) (rs : RowsOf K) → IsParam rs → found rs (b ∷ path) ≡ cond (b == 47) None (found (step 256 rs) (behind path))
  found-param b path [] e = elim (b == 47) as (λ v. cond {A = Option K} true None None ≡ cond {A = Option K} v None None) [ true ↦ refl | false ↦ refl ]
  found-param b path (([], k) ∷ rs) e = found-param b path rs e
  found-param b path ((x ∷ t, k) ∷ rs) e = by (x == 256) refl (b == 47) refl (found-param b path rs (λ y n. rest y (x == y) (e y n)))
    where
      rest : (y : ℕ) (v : Bool) → cond v ((t, k) ∷ step y rs) (step y rs) ≡ [] → step y rs ≡ []
      rest y false e = e
      rest y true e = cc

      by : (v : Bool) → (x == 256) ≡ v → (w : Bool) → (b == 47) ≡ w → found rs (b ∷ path) ≡ cond w None (found (step 256 rs) (behind path))
          → cond (cond v (not w && takes t (behind path)) (x == b && takes t path)) (Some k) (found rs (b ∷ path)) ≡ cond w None (found (cond v ((t, k) ∷ step 256 rs) (step 256 rs)) (behind path))
      by true f true g h = h
      by true f false g h = ap (λ o. cond (takes t (behind path)) (Some k) o) h
      by false f w g h =
          let n : x ≢ 256 = λ q. grind (arith, nat_tests) in
          let here : cond (x == x) ((t, k) ∷ step x rs) (step x rs) ≡ [] = e x n in
          let none : (t, k) ∷ step x rs ≡ [] = rw (same x) at here in
          cc

  -- the suffix that is cut off a part is a slash where one is there and some row goes on with it, else nothing
  longest-none : (seg : List ℕ) (rs : RowsOf K) → AllEnd rs → cuts seg (47 ∷ []) ≡ false → longest_from seg [] rs ≡ []
  longest-none seg [] h e = refl
  longest-none seg (([], k) ∷ rs) h e = longest-none seg rs h.1 e
  longest-none seg ((x ∷ t, k) ∷ rs) h e =
      let is : x ≡ 47 = grind (arith, nat_tests) in
      rw (is, e) (longest-none seg rs h.1 e)

  longest-kept : (seg : List ℕ) (rs : RowsOf K) → AllEnd rs → longest_from seg (47 ∷ []) rs ≡ 47 ∷ []
  longest-kept seg [] h = refl
  longest-kept seg (([], k) ∷ rs) h = longest-kept seg rs h.1
  longest-kept seg ((x ∷ t, k) ∷ rs) h =
      let is : x ≡ 47 = grind (arith, nat_tests) in
      rw is (longest-kept seg rs h.1)

  longest-slash : (seg : List ℕ) (rs : RowsOf K) → AllEnd rs → cuts seg (47 ∷ []) ≡ true
      → (longest_suffix seg rs ≡ 47 ∷ []) ⊎ ((longest_suffix seg rs ≡ []) × (with_suffix (47 ∷ []) rs ≡ []))
  longest-slash seg [] h e = inr (refl, refl)
  longest-slash seg (([], k) ∷ rs) h e = longest-slash seg rs h.1 e
  longest-slash seg ((x ∷ t, k) ∷ rs) h e =
      let is : x ≡ 47 = grind (arith, nat_tests) in
      inl (rw (is, e) (longest-kept seg rs h.1))

  -- behind a slash a row that ends takes nothing
  found-suffix : (path : List ℕ) (rs : RowsOf K) → AllEnd rs → found (with_suffix (47 ∷ []) rs) (47 ∷ path) ≡ found rs (47 ∷ path)
  found-suffix path [] h = refl
  found-suffix path (([], k) ∷ rs) h = found-suffix path rs h.1
  found-suffix path ((x ∷ t, k) ∷ rs) h =
      let is : x ≡ 47 = grind (arith, nat_tests) in
      rw is (ap (λ o. cond (takes t path) (Some k) o) (found-suffix path rs h.1))

  -- what a walk finds behind a parameter
  after : RowsOf K → List ℕ → Option K
  after rs [] = None
  after rs (b ∷ path) = seek ((param_step rs (b ∷ path)).0 - 1) (param_step rs (b ∷ path)).1 path

  after-slash : (path : List ℕ) (rs : RowsOf K) → AllEnd rs → after rs (47 ∷ path) ≡ None
  unfolding after param_step
  after-slash path rs h = rw (longest-none (47 ∷ []) rs h refl) (seek-none 0 path)

  after-end : (b : ℕ) (path : List ℕ) (rs : RowsOf K) → AllEnd rs → (b == 47) ≡ false → has_slash path ≡ false → after rs (b ∷ path) ≡ seek 0 rs []
  unfolding after param_step
  after-end b path rs h n e =
      let all : drop (suc (length path) - 1) path ≡ [] = drop_all (suc (length path) - 1) path (omega arith) in
      rw (n, longest-none (b ∷ segment path) rs h (cuts-slash b path ∙ e), e) (seek-skip (suc (length path) - 1) rs path ∙ ap (λ p. seek 0 rs p) all)

  after-part : (b : ℕ) (path : List ℕ) (rs : RowsOf K) → AllEnd rs → (b == 47) ≡ false → has_slash path ≡ true
      → after rs (b ∷ path) ≡ seek 0 (with_suffix (47 ∷ []) rs) (behind path)
  unfolding after param_step
  after-part b path rs h n e = by (longest-slash (b ∷ segment path) rs h (cuts-slash b path ∙ e))
    where
      by : (longest_suffix (b ∷ segment path) rs ≡ 47 ∷ []) ⊎ ((longest_suffix (b ∷ segment path) rs ≡ []) × (with_suffix (47 ∷ []) rs ≡ []))
          → after rs (b ∷ path) ≡ seek 0 (with_suffix (47 ∷ []) rs) (behind path)
      by (inl l) =
          let count : suc (length (segment path)) - 1 - 1 ≡ length (segment path) - 1 = omega arith in
          rw (n, l, count) (seek-skip (length (segment path) - 1) (with_suffix (47 ∷ []) rs) path ∙ ap (λ p. seek 0 (with_suffix (47 ∷ []) rs) p) (behind-slash path e))
      by (inr l) = rw (n, l.0, l.1, e) (seek-none 0 path ∙ sym (seek-none 0 (behind path)))

  -- a step of the walk: by the next byte, by a parameter, or by a catch-all
  walk : (b : ℕ) (path : List ℕ) (rs : RowsOf K) → seek 0 rs (b ∷ path) ≡ or_else (seek 0 (step b rs) path) (or_else (after (step 256 rs) (b ∷ path)) (own (step 257 rs)))
  unfolding seek after
  walk b path rs = refl

  or_else-none : (a : Option K) → or_else a None ≡ a
  or_else-none None = refl
  or_else-none (Some k) = refl

  seek-end : (rs : RowsOf K) → seek 0 rs [] ≡ own rs
  unfolding seek
  seek-end rs = refl

  after-none : (b : ℕ) (path : List ℕ) → after [] (b ∷ path) ≡ None
  unfolding after
  after-none b path = rw (param_step-none (b ∷ path)) (seek-none ((param_step {K = K} [] (b ∷ path)).0 - 1) path)

  walk-bytes : (b : ℕ) (path : List ℕ) (rs : RowsOf K) → AreGood rs → step 256 rs ≡ [] → seek 0 rs (b ∷ path) ≡ seek 0 (step b rs) path
  walk-bytes b path rs g e = walk b path rs ∙ rw (e, no_catch_all rs g, after-none b path) (or_else-none (seek 0 (step b rs) path))

  walk-param : (b : ℕ) (path : List ℕ) (rs : RowsOf K) → b < 256 → IsParam rs → seek 0 rs (b ∷ path) ≡ after (step 256 rs) (b ∷ path)
  walk-param b path rs lt e =
      walk b path rs ∙ rw (e b (below b lt), e 257 (above 257 (omega arith)), seek-none 0 path) (or_else-none (after (step 256 rs) (b ∷ path)))

  -- Among such rows a walk finds the first that takes the path, which is no longer than n.
  pub finds : (n : ℕ) (path : List ℕ) (rs : RowsOf K) → length path ≤ n → IsText path → AreGood rs → seek 0 rs path ≡ found rs path
  finds n [] rs le text g = seek-end rs ∙ own-found rs
  finds zero (b ∷ path) rs le text g = absurd (omega arith)
  finds (suc n) (b ∷ path) rs le text g = by (only_one rs g)
      (finds n path (step b rs) (omega arith) text.1 (good-step b rs g))
      (let rest = behind-text path text.1 in
      let size = rest.0 in
      finds n (behind path) (with_suffix (47 ∷ []) (step 256 rs)) (omega arith) rest.1 (good-suffix (47 ∷ []) (step 256 rs) (good-step 256 rs g)))
    where
      part : (e : IsParam rs) (v : Bool) → (b == 47) ≡ v → (w : Bool) → has_slash path ≡ w
          → seek 0 (with_suffix (47 ∷ []) (step 256 rs)) (behind path) ≡ found (with_suffix (47 ∷ []) (step 256 rs)) (behind path)
          → after (step 256 rs) (b ∷ path) ≡ cond v None (found (step 256 rs) (behind path))
      part e true p w q ih =
          let is : b ≡ 47 = grind (arith, nat_tests) in
          rw is (after-slash path (step 256 rs) (all_end rs g))
      part e false p false q ih =
          after-end b path (step 256 rs) (all_end rs g) p q ∙ seek-end (step 256 rs) ∙ own-found (step 256 rs) ∙ ap (λ r. found (step 256 rs) r) (sym (behind-none path q))
      part e false p true q ih =
          let begins = behind-begins path q in
          after-part b path (step 256 rs) (all_end rs g) p q ∙ ih
          ∙ ap (λ r. found (with_suffix (47 ∷ []) (step 256 rs)) r) begins ∙ found-suffix (drop 1 (behind path)) (step 256 rs) (all_end rs g)
          ∙ ap (λ r. found (step 256 rs) r) (sym begins)

      by : (step 256 rs ≡ []) ⊎ IsParam rs → seek 0 (step b rs) path ≡ found (step b rs) path
          → seek 0 (with_suffix (47 ∷ []) (step 256 rs)) (behind path) ≡ found (with_suffix (47 ∷ []) (step 256 rs)) (behind path)
          → seek 0 rs (b ∷ path) ≡ found rs (b ∷ path)
      by (inl e) bytes rest = walk-bytes b path rs g e ∙ bytes ∙ sym (found-byte b path rs e)
      by (inr e) bytes rest = walk-param b path rs text.0 e ∙ part e (b == 47) refl (has_slash path) refl rest ∙ sym (found-param b path rs e)
