-- The texts that make the tables, by their numbers.
use Rattle.std.proofs.Common.{◌≡◌, ◌<◌, ◌+◌, inl, ℕ, zero, suc, [], Ok, Err, arith}
use Rattle.sqlite.specs.State.{ExecutesInside, HasCleanDisk, State}
use Rattle.sqlite.specs.declared.error.Error.{Error}
use Rattle.mds_tables.specs.Causes.{HasFailed}
use Rattle.mds_tables.specs.Making.{MakesThere}
use Rattle.mds_tables.proofs.CreateLemmas.{fails, makes, there}
use Rattle.mds_tables.proofs.CreateTexts.{IsText}
use Rattle.mds_pack_rows.specs.Making.{MakesTable, create}
use Rattle.mds_pack_rows.specs.Schemas.{nth_table, schema_of}
use Rattle.mds_pack_rows.proofs.MakingTexts.{daydetail_text, detail_text, event_text, form_text, head_text, holiday_text, job_text, pack_text, period_text, schema_text, version_text}

pub nth_text : (n : ℕ) → n < 11 → IsText (schema_of n) (schema_of (n + 1)) (create n) (nth_table n)
nth_text zero low = schema_text
nth_text (suc zero) low = head_text
nth_text (suc (suc zero)) low = version_text
nth_text (suc (suc (suc zero))) low = detail_text
nth_text (suc (suc (suc (suc zero)))) low = event_text
nth_text (suc (suc (suc (suc (suc zero))))) low = period_text
nth_text (suc (suc (suc (suc (suc (suc zero)))))) low = holiday_text
nth_text (suc (suc (suc (suc (suc (suc (suc zero))))))) low = job_text
nth_text (suc (suc (suc (suc (suc (suc (suc (suc zero)))))))) low = pack_text
nth_text (suc (suc (suc (suc (suc (suc (suc (suc (suc zero))))))))) low = daydetail_text
nth_text (suc (suc (suc (suc (suc (suc (suc (suc (suc (suc zero)))))))))) low = form_text
nth_text (suc (suc (suc (suc (suc (suc (suc (suc (suc (suc (suc n))))))))))) low = absurd (omega arith)

module _ (n : ℕ) (low : n < 11) (old new : State) where
  -- what the statement makes
  pub nth_there : (count : ℕ) → (HasCleanDisk new → ExecutesInside 0 (create n) [] old new (Ok count)) → MakesThere (schema_of n) (schema_of (n + 1)) old new
  nth_there = there (schema_of n) (schema_of (n + 1)) (create n) (nth_table n) (nth_text n low) old new

  -- nothing refuses it
  pub nth_fails : (e : Error) → old.now.schema ≡ schema_of n → ExecutesInside 0 (create n) [] old new (Err e) → HasFailed old new e
  nth_fails e has h = inl (fails (schema_of n) (schema_of (n + 1)) (create n) (nth_table n) (nth_text n low) old new e has h)

  pub nth_makes : (count : ℕ) → old.now.schema ≡ schema_of n → ExecutesInside 0 (create n) [] old new (Ok count) → MakesTable n old new
  nth_makes count has ran =
      let it = makes (schema_of n) (schema_of (n + 1)) (create n) (nth_table n) (nth_text n low) old new count has ran.0 in
      record {
        is_open = ran.1.is_open;
        schema = it.schema;
        others = it.others;
        none = it.empty;
        committed = ran.1.committed_is;
        sound = it.sound;
      }
