-- The values of the borrowed terms in contracts.
use Rattle.std.specs.Prelude.{ℕ, List}
use Rattle.mds_terms.specs.Details.{DetailsValue}
use Rattle.mds_terms.specs.Event.{EventValue}
use Rattle.mds_terms.specs.declared.printable.PrintableText.{PrintableText}
use Rattle.mds_terms.specs.declared.details_ref.DetailsRef.{DetailsRef}
use Rattle.mds_terms.specs.declared.event_ref.EventRef.{EventRef}

-- the bytes of a printable text
abbrev pub text_of : PrintableText → List ℕ
text_of printable = printable.text.now

-- borrowed details as a value
abbrev pub details_in : DetailsRef → DetailsValue
details_in details = record {
  configuration = text_of details.configuration;
  register = text_of details.register;
  datastream = text_of details.datastream;
  meter = text_of details.meter;
  next = details.next;
}

-- a borrowed event as a value
abbrev pub event_in : EventRef → EventValue
event_in event = record {
  nmi = event.nmi;
  suffix = event.suffix;
  day = event.day;
  trans = event.trans;
  ticket = text_of event.ticket;
  moment = event.moment;
  reading = text_of event.reading;
}
