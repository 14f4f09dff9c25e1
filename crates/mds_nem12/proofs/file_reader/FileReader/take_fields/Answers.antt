use Rattle.std.proofs.Common.{◌≡◌, ◌∙◌, ◌+◌, ℕ, List, Ok, length, ap, subst, sym}
use Rattle.mds_lines.specs.Numbered.{number_of, text_of}
use Rattle.mds_lines.specs.declared.line.Kind.{Kind}
use Rattle.mds_nem12.specs.FileReaderSteps.{IsReady, Takes, last_kind}
use Rattle.mds_nem12.specs.Place.{is_in_place}
use Rattle.mds_nem12.proofs.file_reader.FileReader.take_fields.Goals as goal

pub take_header-requires-clause-known : goal.take_header-requires-clause-known
take_header-requires-clause-known g c = c.requires.known ∙ ap Ok c.in-Header.is

pub take_header-requires-clause-place : goal.take_header-requires-clause-place
take_header-requires-clause-place g c = ap (is_in_place (last_kind c.args.self.now.last)) (sym c.in-Header.is) ∙ c.requires.place

pub returns-in-Header : goal.returns-in-Header
returns-in-Header g c =
    subst (λ (kind : Kind). (before : List (List ℕ)) → IsReady g.T.StatementSink.told before kind c.args.self.now → number_of c.args.line.now ≡ length before + 1
    → Takes g.T.StatementSink.told before (text_of c.args.line.now) kind c.take_header.result c.take_header.new.self) (sym c.in-Header.is) c.take_header.ensures

pub take_details-requires-clause-known : goal.take_details-requires-clause-known
take_details-requires-clause-known g c = c.requires.known ∙ ap Ok c.in-NmiDataDetails.is

pub take_details-requires-clause-place : goal.take_details-requires-clause-place
take_details-requires-clause-place g c = ap (is_in_place (last_kind c.args.self.now.last)) (sym c.in-NmiDataDetails.is) ∙ c.requires.place

pub returns-in-NmiDataDetails : goal.returns-in-NmiDataDetails
returns-in-NmiDataDetails g c =
    subst (λ (kind : Kind). (before : List (List ℕ)) → IsReady g.T.StatementSink.told before kind c.args.self.now → number_of c.args.line.now ≡ length before + 1
    → Takes g.T.StatementSink.told before (text_of c.args.line.now) kind c.take_details.result c.take_details.new.self) (sym c.in-NmiDataDetails.is) c.take_details.ensures

pub take_day-requires-clause-known : goal.take_day-requires-clause-known
take_day-requires-clause-known g c = c.requires.known ∙ ap Ok c.in-IntervalData.is

pub take_day-requires-clause-place : goal.take_day-requires-clause-place
take_day-requires-clause-place g c = ap (is_in_place (last_kind c.args.self.now.last)) (sym c.in-IntervalData.is) ∙ c.requires.place

pub returns-in-IntervalData : goal.returns-in-IntervalData
returns-in-IntervalData g c =
    subst (λ (kind : Kind). (before : List (List ℕ)) → IsReady g.T.StatementSink.told before kind c.args.self.now → number_of c.args.line.now ≡ length before + 1
    → Takes g.T.StatementSink.told before (text_of c.args.line.now) kind c.take_day.result c.take_day.new.self) (sym c.in-IntervalData.is) c.take_day.ensures

pub take_run-requires-clause-known : goal.take_run-requires-clause-known
take_run-requires-clause-known g c = c.requires.known ∙ ap Ok c.in-IntervalEvent.is

pub take_run-requires-clause-place : goal.take_run-requires-clause-place
take_run-requires-clause-place g c = ap (is_in_place (last_kind c.args.self.now.last)) (sym c.in-IntervalEvent.is) ∙ c.requires.place

pub returns-in-IntervalEvent : goal.returns-in-IntervalEvent
returns-in-IntervalEvent g c =
    subst (λ (kind : Kind). (before : List (List ℕ)) → IsReady g.T.StatementSink.told before kind c.args.self.now → number_of c.args.line.now ≡ length before + 1
    → Takes g.T.StatementSink.told before (text_of c.args.line.now) kind c.take_run.result c.take_run.new.self) (sym c.in-IntervalEvent.is) c.take_run.ensures

pub take_event-requires-clause-known : goal.take_event-requires-clause-known
take_event-requires-clause-known g c = c.requires.known ∙ ap Ok c.in-B2bDetails.is

pub take_event-requires-clause-place : goal.take_event-requires-clause-place
take_event-requires-clause-place g c = ap (is_in_place (last_kind c.args.self.now.last)) (sym c.in-B2bDetails.is) ∙ c.requires.place

pub returns-in-B2bDetails : goal.returns-in-B2bDetails
returns-in-B2bDetails g c =
    subst (λ (kind : Kind). (before : List (List ℕ)) → IsReady g.T.StatementSink.told before kind c.args.self.now → number_of c.args.line.now ≡ length before + 1
    → Takes g.T.StatementSink.told before (text_of c.args.line.now) kind c.take_event.result c.take_event.new.self) (sym c.in-B2bDetails.is) c.take_event.ensures

pub take_end-requires-clause-known : goal.take_end-requires-clause-known
take_end-requires-clause-known g c = c.requires.known ∙ ap Ok c.in-EndOfData.is

pub take_end-requires-clause-place : goal.take_end-requires-clause-place
take_end-requires-clause-place g c = ap (is_in_place (last_kind c.args.self.now.last)) (sym c.in-EndOfData.is) ∙ c.requires.place

pub returns-in-EndOfData : goal.returns-in-EndOfData
returns-in-EndOfData g c =
    subst (λ (kind : Kind). (before : List (List ℕ)) → IsReady g.T.StatementSink.told before kind c.args.self.now → number_of c.args.line.now ≡ length before + 1
    → Takes g.T.StatementSink.told before (text_of c.args.line.now) kind c.take_end.result c.take_end.new.self) (sym c.in-EndOfData.is) c.take_end.ensures
