-- What a reader knows when it has kept a record.
use Rattle.std.proofs.Common.{◌≡◌, ℕ, ◌+◌, true, List, [], ◌∷◌, ◌++◌, length, Some, unwrap_or, Ok, refl, sym, ◌∙◌, ap, subst}
use Rattle.std.specs.Result.{result_ok}
use Rattle.mds_lines.specs.Kinds.{kind_of}
use Rattle.mds_lines.specs.declared.line.Kind.TheVariants as a
use Rattle.mds_records.specs.Records.{IsAccumulationB2bDetails, IsAccumulationData, IsHeader}
use Rattle.mds_records.specs.declared.accumulation_b2b_details.AccumulationB2bDetailsRecord.{AccumulationB2bDetailsRecord}
use Rattle.mds_records.specs.declared.accumulation_data.AccumulationDataRecord.{AccumulationDataRecord}
use Rattle.mds_records.specs.declared.header.HeaderRecord.{HeaderRecord}
use Rattle.mds_statements.specs.Statements.{HeaderValue, PeriodStatement, Statement}
use Rattle.mds_statements.specs.Statements.Statement.{HeaderOf, PeriodOf}
use Rattle.mds_walk.specs.Governing.{record_kind}
use Rattle.mds_walk.specs.Said.{header_in, header_said, is_headed}
use Rattle.mds_walk.proofs.Numbered.{no_kind}
use Rattle.mds_nem13.specs.FileReaderSteps.{HasTaken, Knows, last_kind, last_moment}
use Rattle.mds_nem13.specs.Place.{is_in_place}
use Rattle.mds_nem13.specs.Said.{note_in, period_in, with_notes}
use Rattle.mds_nem13.specs.declared.file_reader.FileReader.{FileReader}
use Rattle.mds_nem13.specs.declared.file_reader.LastRecord.{LastRecord}
use Rattle.mds_nem13.specs.declared.file_reader.LastRecord.TheVariants as state
use Rattle.mds_nem13.proofs.Steps.{at_period, headed_at, knows_blank, knows_end, knows_header, knows_none, knows_period, nothing_told}

-- before the first line
pub taken_none : {T : Type 0} (told : T → List Statement → Type 0) (reader : FileReader T)
    → reader.last ≡ state.Nothing → told reader.sink [] → HasTaken told [] reader
taken_none told reader last said = record {
  done = [];
  told_is = said;
  knows = subst (λ (l : LastRecord). Knows [] l []) (sym last) knows_none;
}

pub kept_empty : {T : Type 0} (told : T → List Statement → Type 0) (before : List (List ℕ)) (x : List ℕ) (old : FileReader T)
    → x ≡ [] → HasTaken told before old → HasTaken told (before ++ x ∷ []) old
kept_empty told before x old empty h = record {
  done = h.done;
  told_is = h.told_is;
  knows = knows_blank old.last before x h.done (ap record_kind empty ∙ no_kind) h.knows;
}

-- a header says what its line says
header_spelled : (x : List ℕ) (r : HeaderRecord) → IsHeader x r → header_said r ≡ header_in x
header_spelled x r s = λ i. record {
  moment = ap (λ o. unwrap_or o 0) (sym s.moment) i;
  sender = s.sender i;
  receiver = s.receiver i;
}

pub kept_header : {T : Type 0} (told : T → List Statement → Type 0) (before : List (List ℕ)) (x : List ℕ) (old : FileReader T) (sink : T)
    (r : HeaderRecord) → kind_of x ≡ Ok a.Header → HasTaken told before old → is_in_place (last_kind old.last) a.Header ≡ true
    → IsHeader x r → (told old.sink [] → told sink (HeaderOf (header_said r) ∷ []))
    → HasTaken told (before ++ x ∷ []) (record old { sink = sink; last = state.Header r.moment })
kept_header told before x old sink r kind h place spells say =
    let blank = nothing_told old.last before h.done place h.knows in
    record {
      done = HeaderOf (header_in x) ∷ [];
      told_is = subst (λ (v : HeaderValue). told sink (HeaderOf v ∷ [])) (header_spelled x r spells)
          (say (subst (λ (d : List Statement). told old.sink d) blank.none h.told_is));
      knows = knows_header before x r.moment h.done (ap result_ok kind) (ap (λ o. unwrap_or o 0) spells.moment) blank;
    }

pub kept_period : {T : Type 0} (told : T → List Statement → Type 0) (before : List (List ℕ)) (x : List ℕ) (old : FileReader T) (sink : T)
    (number moment : ℕ) (r : AccumulationDataRecord) → kind_of x ≡ Ok a.AccumulationData → HasTaken told before old
    → number ≡ length before + 1 → last_moment old.last ≡ Some moment → IsAccumulationData x r
    → ((done : List Statement) (text : List ℕ) → told old.sink done → is_headed done ≡ true → IsAccumulationData text r
    → told sink (done ++ PeriodOf (period_in moment number text []) ∷ []))
    → HasTaken told (before ++ x ∷ []) (record old { sink = sink; last = state.Period moment })
kept_period told before x old sink number moment r kind h number_is moment_is spells say =
    let is = ap result_ok kind in
    record {
      done = h.done ++ PeriodOf (period_in moment (length before + 1) x []) ∷ [];
      told_is = subst (λ (n : ℕ). told sink (h.done ++ PeriodOf (period_in moment n x []) ∷ [])) number_is
          (say h.done x h.told_is (headed_at old.last before x moment h.done is moment_is h.knows) spells);
      knows = knows_period old.last before x moment h.done is moment_is h.knows;
    }

pub kept_note : {T : Type 0} (told : T → List Statement → Type 0) (before : List (List ℕ)) (x : List ℕ) (old : FileReader T) (sink : T)
    (moment : ℕ) (r : AccumulationB2bDetailsRecord) → kind_of x ≡ Ok a.AccumulationB2bDetails → HasTaken told before old
    → is_in_place (last_kind old.last) a.AccumulationB2bDetails ≡ true → last_moment old.last ≡ Some moment → IsAccumulationB2bDetails x r
    → ((done : List Statement) (period : PeriodStatement) (text : List ℕ) → told old.sink (done ++ PeriodOf period ∷ [])
    → is_headed done ≡ true → IsAccumulationB2bDetails text r → told sink (done ++ PeriodOf (with_notes period (note_in text ∷ [])) ∷ []))
    → HasTaken told (before ++ x ∷ []) (record old { sink = sink; last = state.Note moment })
kept_note told before x old sink moment r kind h place moment_is spells say =
    let at = at_period old.last before x moment h.done (ap result_ok kind) place moment_is h.knows in
    record {
      done = at.front ++ PeriodOf (with_notes at.period (note_in x ∷ [])) ∷ [];
      told_is = say at.front at.period x (subst (λ (d : List Statement). told old.sink d) at.done_is h.told_is) at.headed spells;
      knows = at.next;
    }

end_at : (last : LastRecord) (before : List (List ℕ)) (x : List ℕ) (done : List Statement) → record_kind x ≡ Some a.EndOfData
    → is_in_place (last_kind last) a.EndOfData ≡ true → Knows before last done → Knows (before ++ x ∷ []) state.End done
end_at state.Nothing before x done is place k = absurd (cc)
end_at (state.Header m) before x done is place k = knows_end (state.Header m) before x m done is refl k
end_at (state.Period m) before x done is place k = knows_end (state.Period m) before x m done is refl k
end_at (state.Note m) before x done is place k = knows_end (state.Note m) before x m done is refl k
end_at state.End before x done is place k = absurd (cc)

pub kept_end : {T : Type 0} (told : T → List Statement → Type 0) (before : List (List ℕ)) (x : List ℕ) (old : FileReader T)
    → kind_of x ≡ Ok a.EndOfData → HasTaken told before old → is_in_place (last_kind old.last) a.EndOfData ≡ true
    → HasTaken told (before ++ x ∷ []) (record old { last = state.End })
kept_end told before x old kind h place = record {
  done = h.done;
  told_is = h.told_is;
  knows = end_at old.last before x h.done (ap result_ok kind) place h.knows;
}
