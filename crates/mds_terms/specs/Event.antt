-- What a 500 record states of a stream on a day. MDFF Specification, the 500 record: TransCode, RetServiceOrder,
-- ReadDateTime and IndexRead. By this project's profile each may be empty; the profile also says which texts they are.
use Rattle.std.specs.Prelude.{◌≡◌, ℕ, Bool, true, ◌&&◌, ◌==◌, if◌then◌else◌, List, [], ◌∷◌, length, slice_index, Option, Some, None, option_and_then}
use Rattle.std.specs.Char.{is_ascii_uppercase}
use Rattle.std.specs.Cmp.Lexicographic.{slice_cmp}
use Rattle.std.specs.List.{list_all}
use Rattle.std.specs.Option.{option_cmp}
use Rattle.std.specs.Ordering.{nat_cmp, on, then_cmp}
use Rattle.std.specs.declared.cmp.Ordering.{Ordering}
use Rattle.mds_calendar.specs.Calendar.{day_of, moment_of}
use Rattle.mds_names.specs.Names.{is_name, nmi_of, suffix_of}
use Rattle.mds_terms.specs.Printable.{is_printable}
use Rattle.mds_terms.specs.Parts.{joined, optional}

-- The parts. The day is its number, the transaction code its ASCII letter, and the moment of the read its seconds. The
-- ticket is the service order, and the reading the index read.
pub record EventValue : Type 0 where
  pub nmi : List ℕ
  pub suffix : List ℕ
  pub day : ℕ
  pub trans : Option ℕ
  pub ticket : List ℕ
  pub moment : Option ℕ
  pub reading : List ℕ

-- the transaction code that a text denotes: one capital letter
abbrev pub letter_of : List ℕ → Option ℕ
letter_of text =
    if (length text == 1) && is_ascii_uppercase (slice_index text 0) then Some (slice_index text 0) else None

-- a transaction code is absent or a capital letter
abbrev pub is_trans : Option ℕ → Bool
is_trans None = true
is_trans (Some letter) = is_ascii_uppercase letter

-- the names and the transaction code are valid, and the texts are printable
abbrev pub is_event : EventValue → Bool
is_event event =
    is_name 10 event.nmi && is_name 2 event.suffix && is_trans event.trans
    && list_all is_printable (event.ticket ∷ event.reading ∷ [])

-- the event denoted by seven texts
unfoldable pub event_of : List ℕ → List ℕ → List ℕ → List ℕ → List ℕ → List ℕ → List ℕ → Option EventValue
event_of nmi suffix day trans ticket moment reading =
    option_and_then (λ named.
    option_and_then (λ stream.
    option_and_then (λ on.
    option_and_then (λ letter.
    option_and_then (λ read_at.
    if list_all is_printable (ticket ∷ reading ∷ [])
    then Some (record {
      nmi = named;
      suffix = stream;
      day = on;
      trans = letter;
      ticket = ticket;
      moment = read_at;
      reading = reading;
    })
    else None)
    (optional moment_of moment)) (optional letter_of trans)) (day_of day)) (suffix_of suffix)) (nmi_of nmi)

-- The text of a transaction code: its letter, or nothing.
abbrev pub trans_text : Option ℕ → List ℕ
trans_text None = []
trans_text (Some letter) = letter ∷ []

-- The written text: the seven parts joined by commas, where the day and the moment are the texts that read as them.
abbrev pub IsEventText : EventValue → List ℕ → Type 0
IsEventText event text =
    (day : List ℕ) × (moment : List ℕ) × (day_of day ≡ Some event.day)
    × (optional moment_of moment ≡ Some event.moment)
    × (text
    ≡ joined (event.nmi ∷ event.suffix ∷ day ∷ trans_text event.trans ∷ event.ticket ∷ moment ∷ event.reading ∷ []))

-- The order of events: field by field, texts by their bytes, an absent field first (profile).
unfoldable pub event_cmp : EventValue → EventValue → Ordering
event_cmp =
    then_cmp (on (λ e. e.nmi) (slice_cmp nat_cmp))
    (then_cmp (on (λ e. e.suffix) (slice_cmp nat_cmp))
    (then_cmp (on (λ e. e.day) nat_cmp)
    (then_cmp (on (λ e. e.trans) (option_cmp nat_cmp))
    (then_cmp (on (λ e. e.ticket) (slice_cmp nat_cmp))
    (then_cmp (on (λ e. e.moment) (option_cmp nat_cmp))
    (on (λ e. e.reading) (slice_cmp nat_cmp)))))))
