use Rattle.std.proofs.Common.{Bor, sym, ◌≡◌, ℕ, ◌+◌, ◌<◌, ◌≤◌, List, length, get_or, ◌++◌, ◌∙◌, ◌∷◌, [], ap, arith, rules, string_bytes}
use Rattle.std.proofs.lemmas.List.{append-nil, length-append}
use Rattle.std.proofs.lemmas.Result.{err_from_is_err_and, on_err_weaker}
use Rattle.mds_quantity.proofs.Front.{on_err_from}
use Rattle.mds_names.specs.Names.{comma}
use Rattle.mds_quantity.specs.Append.{AppendsPart}
use Rattle.mds_terms.specs.Parts.{joined}
use Rattle.mds_terms.proofs.Joined.{front_first, front_rest, texts_of}
use Rattle.mds_terms.proofs.parts.+write_joined.Goals as goal

-- nothing is a part of every text
kept : (old new text : List ℕ) → new ≡ old → AppendsPart old new text
kept old new text e = (0, e ∙ sym (append-nil old))

-- the first text and its comma are in the whole
longer : (xs : List (Bor (List ℕ))) (d : Bor (List ℕ)) → 2 ≤ length xs → length (get_or xs 0 d).now + 1 ≤ length (joined (texts_of xs))
longer [] d two = absurd (omega arith)
longer (x ∷ []) d two = absurd (omega arith)
longer (x ∷ y ∷ xs) d two = omega (arith, length-append x.now (comma ∷ joined (texts_of (y ∷ xs))))

full_first : (room long : ℕ) (xs : List (Bor (List ℕ))) (d : Bor (List ℕ)) → 2 ≤ length xs → room < long + length (get_or xs 0 d).now
    → room < long + length (joined (texts_of xs))
full_first room long xs d two full = omega (arith, full, longer xs d two)

full_comma : (room more long now size : ℕ) (xs : List (Bor (List ℕ))) (d : Bor (List ℕ)) → 2 ≤ length xs → now ≡ long + length (get_or xs 0 d).now
    → room ≤ more → size ≤ 1 → more < now + size → room < long + length (joined (texts_of xs))
full_comma room more long now size xs d two len grows one full = omega (arith, full, one, len, grows, longer xs d two)

pub returns-in_err-push-in-len1-up-clause-part : goal.returns-in_err-push-in-len1-up-clause-part
returns-in_err-push-in-len1-up-clause-part t c =
    let part = front_first c.args.texts.now _ _ _ c.in-len1-up.len_at_least (c.in_err-push-in-len1-up.ensures.bytes ∙ c.in_ok-push_str-in-len1-up.ensures.bytes) in
    search (rules, part)

pub returns-in_ok-push-in-len1-up-clause-part : goal.returns-in_ok-push-in-len1-up-clause-part
returns-in_ok-push-in-len1-up-clause-part t c =
    let first = c.in_ok-push_str-in-len1-up.ensures.bytes in
    let mid = c.in_ok-push-in-len1-up.ensures.bytes ∙ (ap (λ e. string_bytes c.push_str-in-len1-up.new.self ++ e) (c.in_ok-push-in-len1-up.ensures.ascii (omega arith)) ∙ ap (λ s. s ++ comma ∷ []) first) in
    on_err_weaker c.write_joined.result (front_rest c.args.texts.now _ (string_bytes c.args.out.now) (string_bytes c.push.new.self) (string_bytes c.write_joined.new.out) c.in-len1-up.len_at_least mid) c.write_joined.ensures.part

pub returns-in_err-push_str-in-len1-up-clause-done : goal.returns-in_err-push_str-in-len1-up-clause-done
returns-in_err-push_str-in-len1-up-clause-done t c = let p = err_from_is_err_and c.from_residual.result c.from_residual.ensures.1 in rw p.1 tt

pub returns-in_err-push_str-in-len1-up-clause-part : goal.returns-in_err-push_str-in-len1-up-clause-part
returns-in_err-push_str-in-len1-up-clause-part t c =
    on_err_from c.from_residual.result _ (kept _ _ _ c.in_err-push_str-in-len1-up.ensures.bytes)

pub returns-in_err-push_str-in-len1-up-clause-full : goal.returns-in_err-push_str-in-len1-up-clause-full
returns-in_err-push_str-in-len1-up-clause-full t c =
    on_err_from c.from_residual.result _ (full_first _ _ _ _ c.in-len1-up.len_at_least c.in_err-push_str-in-len1-up.ensures.full)

pub returns-in_err-push-in-len1-up-clause-done : goal.returns-in_err-push-in-len1-up-clause-done
returns-in_err-push-in-len1-up-clause-done t c =
    let p = err_from_is_err_and c.from_residual-in_err-push-in-len1-up.result c.from_residual-in_err-push-in-len1-up.ensures.1 in rw p.1 tt

pub returns-in_err-push-in-len1-up-clause-full : goal.returns-in_err-push-in-len1-up-clause-full
returns-in_err-push-in-len1-up-clause-full t c =
    let before = c.in_ok-push_str-in-len1-up.ensures in
    let now = c.in_err-push-in-len1-up.ensures in
    on_err_from c.from_residual-in_err-push-in-len1-up.result _
    (full_comma _ _ _ _ _ _ _ c.in-len1-up.len_at_least before.len before.capacity now.ascii_len now.full)
