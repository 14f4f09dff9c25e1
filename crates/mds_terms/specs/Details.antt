-- The details of a meter in a 200 record: all but its stream, unit and length. MDFF Specification, the 200 record:
-- NMIConfiguration, RegisterID, MDMDataStreamIdentifier, MeterSerialNumber and NextScheduledReadDate. By this project's
-- profile each may be empty.
use Rattle.std.specs.Prelude.{◌≡◌, ℕ, Bool, if◌then◌else◌, List, [], ◌∷◌, Option, Some, None, option_map}
use Rattle.std.specs.Cmp.Lexicographic.{slice_cmp}
use Rattle.std.specs.List.{list_all}
use Rattle.std.specs.Option.{option_cmp}
use Rattle.std.specs.Ordering.{nat_cmp, on, then_cmp}
use Rattle.std.specs.declared.cmp.Ordering.{Ordering}
use Rattle.mds_calendar.specs.Calendar.{day_of}
use Rattle.mds_terms.specs.Printable.{is_printable}
use Rattle.mds_terms.specs.Parts.{joined, optional}

-- the parts, the next scheduled read date by its day number
pub record DetailsValue : Type 0 where
  pub configuration : List ℕ
  pub register : List ℕ
  pub datastream : List ℕ
  pub meter : List ℕ
  pub next : Option ℕ

-- the four texts are printable
abbrev pub is_details : DetailsValue → Bool
is_details details =
    list_all is_printable (details.configuration ∷ details.register ∷ details.datastream ∷ details.meter ∷ [])

-- the details denoted by five texts
unfoldable pub details_of : List ℕ → List ℕ → List ℕ → List ℕ → List ℕ → Option DetailsValue
details_of configuration register datastream meter next =
    if list_all is_printable (configuration ∷ register ∷ datastream ∷ meter ∷ [])
    then option_map (λ day. record {
      configuration = configuration;
      register = register;
      datastream = datastream;
      meter = meter;
      next = day;
    }) (optional day_of next)
    else None

-- The written text: the five parts joined by commas, where the day is the text that reads as it.
abbrev pub IsDetailsText : DetailsValue → List ℕ → Type 0
IsDetailsText details text =
    (next : List ℕ) × (optional day_of next ≡ Some details.next)
    × (text ≡ joined (details.configuration ∷ details.register ∷ details.datastream ∷ details.meter ∷ next ∷ []))

-- The order of details: field by field, texts by their bytes, an absent date first (profile).
unfoldable pub details_cmp : DetailsValue → DetailsValue → Ordering
details_cmp =
    then_cmp (on (λ d. d.configuration) (slice_cmp nat_cmp))
    (then_cmp (on (λ d. d.register) (slice_cmp nat_cmp))
    (then_cmp (on (λ d. d.datastream) (slice_cmp nat_cmp))
    (then_cmp (on (λ d. d.meter) (slice_cmp nat_cmp))
    (on (λ d. d.next) (option_cmp nat_cmp)))))
