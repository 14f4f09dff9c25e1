-- The details that a file states are each of a day that it states.
use Rattle.std.specs.Prelude.{◌≡◌, ℕ, ◌+◌, ◌-◌, List, [], ◌∷◌, Option, Some, None, length, take, map, refl}
use Rattle.std.proofs.Common.{sym, ap, inl, inr}
use Rattle.std.specs.List.{range_with_len}
use Rattle.mds_lines.specs.Lines.{line_pieces, line_text}
use Rattle.mds_lines.specs.declared.line.Kind.{Kind}
use Rattle.mds_lines.specs.declared.line.Kind.TheVariants.{Header, NmiDataDetails, AccumulationData, IntervalData, IntervalEvent, B2bDetails, AccumulationB2bDetails, EndOfData}
use Rattle.mds_nem12.specs.Governing.{Governors, governors, line_at, record_kind, runs_of}
use Rattle.mds_nem12.specs.Statements as nem12
use Rattle.mds_nem13.specs.Statements as nem13
use Rattle.mds_records.specs.declared.file.FileKind.{FileKind}
use Rattle.mds_records.specs.declared.file.FileKind.TheVariants.{Nem12, Nem13}
use Rattle.mds_statements.specs.Statements.{DayStatement, DetailsStatement, Statement}
use Rattle.mds_statements.specs.Statements.Statement.{DetailsOf, DayOf}
use Rattle.mds_world.proofs.Lists.{flat_in, in_flat, member_append}
use Rattle.mds_world.specs.Lists.{Member}
use Rattle.mds_service.specs.Machine.{stated_in}

-- the day of the details is stated, too
abbrev pub HasDay : List Statement → DetailsStatement → Type 0
HasDay told details =
    (day : DayStatement) × Member (DayOf day) told × (day.stream ≡ details.stream) × (day.date ≡ details.date)

same_details : (x y : DetailsStatement) → DetailsOf x ≡ DetailsOf y → x ≡ y
same_details x y e = cc

-- a 300 states its day beside its details
day_by : (g : Governors) (n : ℕ) (runs : _) (line : List ℕ) (kind : Option Kind) (details : DetailsStatement)
    → Member (DetailsOf details) (nem12.stated_by g n runs line kind) → HasDay (nem12.stated_by g n runs line kind) details
day_by g n runs line None details m = absurd m
day_by g n runs line (Some Header) details (inl e) = cc
day_by g n runs line (Some Header) details (inr m) = absurd m
day_by g n runs line (Some NmiDataDetails) details (inl e) = cc
day_by g n runs line (Some NmiDataDetails) details (inr m) = absurd m
day_by g n runs line (Some AccumulationData) details m = absurd m
day_by g n runs line (Some IntervalData) details (inl e) =
    let same = same_details details (nem12.details_statement g line) e in (
      nem12.day_statement g n runs line,
      inr (inl refl),
      sym (ap (λ (x : DetailsStatement). x.stream) same),
      sym (ap (λ (x : DetailsStatement). x.date) same),
    )
day_by g n runs line (Some IntervalData) details (inr (inl e)) = cc
day_by g n runs line (Some IntervalData) details (inr (inr m)) = absurd m
day_by g n runs line (Some IntervalEvent) details m = absurd m
day_by g n runs line (Some B2bDetails) details (inl e) = cc
day_by g n runs line (Some B2bDetails) details (inr m) = absurd m
day_by g n runs line (Some AccumulationB2bDetails) details m = absurd m
day_by g n runs line (Some EndOfData) details m = absurd m

day_at : (lines : List (List ℕ)) (k : ℕ) (details : DetailsStatement) → Member (DetailsOf details) (nem12.stated_at lines k)
    → HasDay (nem12.stated_at lines k) details
day_at lines k details m =
    day_by (governors (take (k - 1) lines)) k (runs_of lines k) (line_at lines k) (record_kind (line_at lines k)) details m

days_beside : (text : List ℕ) (details : DetailsStatement) → Member (DetailsOf details) (nem12.statements_of text)
    → HasDay (nem12.statements_of text) details
unfolding nem12.statements nem12.statements_of
days_beside text details m =
    let lines = map line_text (line_pieces text) in
    let numbers = range_with_len 1 (length lines) in
    let r = in_flat (nem12.stated_at lines) numbers (DetailsOf details) m in
    let d = day_at lines r.0 details r.2 in
    (d.0, flat_in (nem12.stated_at lines) numbers (DayOf d.0) r.0 r.1 d.1, d.2, d.3)

-- a NEM13 file states none
none_by : (moment n : ℕ) (kind : Option Kind) (line : List ℕ) (more : List (List ℕ)) (details : DetailsStatement)
    → Member (DetailsOf details) (nem13.stated_by moment n kind line more) → ⊥
none_by moment n None line more details m = m
none_by moment n (Some Header) line more details (inl e) = cc
none_by moment n (Some Header) line more details (inr m) = m
none_by moment n (Some NmiDataDetails) line more details m = m
none_by moment n (Some AccumulationData) line more details (inl e) = cc
none_by moment n (Some AccumulationData) line more details (inr m) = m
none_by moment n (Some IntervalData) line more details m = m
none_by moment n (Some IntervalEvent) line more details m = m
none_by moment n (Some B2bDetails) line more details m = m
none_by moment n (Some AccumulationB2bDetails) line more details m = m
none_by moment n (Some EndOfData) line more details m = m

none_from : (moment n : ℕ) (lines : List (List ℕ)) (details : DetailsStatement)
    → Member (DetailsOf details) (nem13.stated_from moment n lines) → ⊥
none_from moment n [] details m = m
none_from moment n (line ∷ more) details m =
    elim (member_append (DetailsOf details) (nem13.stated_by moment n _ line more)
    (nem13.stated_from moment (n + 1) more) m) [
      | inl a ↦ none_by moment n _ line more details a
      | inr b ↦ none_from moment (n + 1) more details b
    ]

no_details : (text : List ℕ) (details : DetailsStatement) → Member (DetailsOf details) (nem13.statements_of text) → ⊥
unfolding nem13.statements nem13.statements_of
no_details text details m = none_from _ 1 _ details m

pub details_have_days : (kind : FileKind) (text : List ℕ) (details : DetailsStatement)
    → Member (DetailsOf details) (stated_in kind text) → HasDay (stated_in kind text) details
details_have_days Nem12 text details m = days_beside text details m
details_have_days Nem13 text details m = absurd (no_details text details m)
