use Rattle.std.proofs.Common.{◌≡◌, ◌<◌, ◌≤◌, ◌+◌, ◌++◌, ◌∷◌, [], ℕ, List, ◌∙◌, ap, sym, append_assoc, rules, arith, length, length-append, string_bytes, string_capacity, string_len, OnErr}
use Rattle.std.proofs.lemmas.List.{append-nil}
use Rattle.std.proofs.lemmas.Result.{on_err_weaker}
use Rattle.mds_quantity.specs.Append.{AppendsPart}
use Rattle.mds_quantity.proofs.Front.{on_err_from}
use Rattle.mds_marks.proofs.Pieces.{on_err_kept, part_after, part_first, part_front, part_wider}
use Rattle.mds_terms.proofs.Texts.{digits_utf8, moment_is_digits, ok_from}
use Rattle.mds_statements.specs.Bodies.{IsPeriodBody}
use Rattle.mds_statements.proofs.BodyLemmas.{body_said, pushed_last}
use Rattle.mds_statements.proofs.periods.Period.write_body.Goals as goal
use Rattle.mds_statements.proofs.periods.Period.write_body.Goals.{After-digits-update, After-unwrap, After-push_str-3}

-- the body, what it says, and how long it is
abbrev body : After-digits-update → List ℕ
body c = (c.first_line.result.0.now ++ 44 ∷ c.digits-update.result) ++ c.first_line.result.1.now

is_body : (c : After-digits-update) → IsPeriodBody c.args.self.now (body c)
is_body c = (
  c.digits-update.result,
  c.digits-update.ensures,
  body_said c.text.result.now c.first_line.result.0.now c.first_line.result.1.now c.first_line.ensures c.args.self.now.content
      c.text.ensures c.digits-update.result _ c.digits-update.ensures,
)

long : (c : After-digits-update)
    → length (body c) ≡ length c.first_line.result.0.now + 1 + length c.digits-update.result + length c.first_line.result.1.now
long c =
    let line = c.first_line.result.0.now in
    let update = c.digits-update.result in
    omega (arith, length-append (line ++ 44 ∷ update) c.first_line.result.1.now, length-append line (44 ∷ update))

pub returns-in_err-push_str-clause-part : goal.returns-in_err-push_str-clause-part
returns-in_err-push_str-clause-part c =
    let at = (goal.at.returns-in_err-push_str-clause-part c).After-digits-update in
    on_err_from c.from_residual.result _
    (body at, is_body at, (0, c.in_err-push_str.ensures.bytes ∙ sym (append-nil _)), omega (arith, c.in_err-push_str.ensures.full, long at))

pub returns-in_err-push-clause-part : goal.returns-in_err-push-clause-part
returns-in_err-push-clause-part c =
    let at = (goal.at.returns-in_err-push-clause-part c).After-digits-update in
    let line = c.first_line.result.0.now in
    let before = c.in_ok-push_str.ensures in
    let failed = c.in_err-push.ensures in
    on_err_from c.from_residual-in_err-push.result _ (
      body at,
      is_body at,
      part_first _ _ line (44 ∷ c.digits-update.result) c.first_line.result.1.now (failed.bytes ∙ before.bytes),
      omega (arith, failed.full, failed.ascii_len, before.len, before.capacity, long at),
    )

pub unwrap-requires : goal.unwrap-requires
unwrap-requires c =
    ok_from c.from_utf8.result _ _ c.from_utf8.ensures.cases
    (λ e q. q.0 (digits_utf8 c.digits-update.result (moment_is_digits c.digits-update.result _ c.digits-update.ensures)))

-- what stands before the update, and its text
record BeforeUpdate (c : After-unwrap) : Type 0 where
  line : string_bytes c.push_str.new.self ≡ string_bytes c.args.out.now ++ c.first_line.result.0.now
  comma : string_bytes c.push.new.self ≡ string_bytes c.push_str.new.self ++ 44 ∷ []
  update : c.unwrap.result.now ≡ c.digits-update.result
  long : string_len c.push.new.self ≡ string_len c.args.out.now + length c.first_line.result.0.now + 1
  room : string_capacity c.args.out.now ≤ string_capacity c.push.new.self

before_update : (c : After-unwrap) → BeforeUpdate c
before_update c =
    let ascii = c.in_ok-push.ensures.ascii (omega arith) in
    record {
      line = c.in_ok-push_str.ensures.bytes;
      comma = c.in_ok-push.ensures.bytes ∙ ap (λ t. string_bytes c.push_str.new.self ++ t) ascii;
      update = search rules;
      long = omega (arith, c.in_ok-push.ensures.len, ap length ascii, c.in_ok-push_str.ensures.len);
      room = omega (arith, c.in_ok-push.ensures.capacity, c.in_ok-push_str.ensures.capacity);
    }

pub returns-in_err-push_str-2-clause-part : goal.returns-in_err-push_str-2-clause-part
returns-in_err-push_str-2-clause-part c =
    let at = (goal.at.returns-in_err-push_str-2-clause-part c).After-digits-update in
    let old = string_bytes c.args.out.now in
    let new = string_bytes c.push_str-2.new.self in
    let line = c.first_line.result.0.now in
    let update = c.digits-update.result in
    let before = before_update (goal.at.returns-in_err-push_str-2-clause-part c).After-unwrap in
    let failed = c.in_err-push_str-2.ensures in
    let front = part_after old _ new line (44 ∷ update) before.line (1, failed.bytes ∙ before.comma) in
    on_err_from c.from_residual-in_err-push_str-2.result _ (
      body at,
      is_body at,
      part_wider old new (line ++ 44 ∷ update) c.first_line.result.1.now front,
      omega (arith, failed.full, ap length before.update, before.long, before.room, long at),
    )

-- what stands before the notes
written : (c : After-push_str-3)
    → string_bytes c.push_str-2.new.self ≡ string_bytes c.args.out.now ++ (c.first_line.result.0.now ++ 44 ∷ c.digits-update.result)
written c =
    let old = string_bytes c.args.out.now in
    let line = c.first_line.result.0.now in
    let update = c.digits-update.result in
    let before = before_update (goal.at.returns-clause-done c).After-unwrap in
    c.in_ok-push_str-2.ensures.bytes ∙ ap (λ t. string_bytes c.push.new.self ++ t) before.update
    ∙ ap (λ t. t ++ update) (before.comma ∙ ap (λ t. t ++ 44 ∷ []) before.line) ∙ append_assoc (old ++ line) (44 ∷ []) update
    ∙ append_assoc old line (44 ∷ update)

pub returns-clause-done : goal.returns-clause-done
returns-clause-done c =
    let at = (goal.at.returns-clause-done c).After-digits-update in
    pushed_last _ (c.first_line.result.0.now ++ 44 ∷ c.digits-update.result) c.first_line.result.1.now _ _ c.push_str-3.result (written c)
    c.push_str-3.ensures.bytes _ (λ bytes. (body at, is_body at, bytes))

pub returns-clause-part : goal.returns-clause-part
returns-clause-part c =
    let at = (goal.at.returns-clause-part c).After-digits-update in
    let old = string_bytes c.args.out.now in
    let new = string_bytes c.push_str-3.new.self in
    let line = c.first_line.result.0.now in
    let before = before_update (goal.at.returns-clause-part c).After-unwrap in
    let is = is_body at in
    let part : OnErr c.push_str-3.result (AppendsPart old new (body at)) =
    on_err_kept c.push_str-3.result new _ _ c.push_str-3.ensures.bytes
    (λ kept. part_front old new (line ++ 44 ∷ c.digits-update.result) c.first_line.result.1.now (kept ∙ written c)) in
    let mid = c.in_ok-push_str-2.ensures in
    let full : OnErr c.push_str-3.result (string_capacity c.args.out.now < string_len c.args.out.now + length (body at)) =
    on_err_weaker c.push_str-3.result
    (λ full. omega (arith, full, mid.len, mid.capacity, ap length before.update, before.long, before.room, long at))
    c.push_str-3.ensures.full in
    search (rules, part, full, is)
