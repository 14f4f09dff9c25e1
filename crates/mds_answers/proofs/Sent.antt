-- What is sent of answers.
use Rattle.std.proofs.Common.{◌≡◌, ◌∙◌, ℕ, ℤ, List, Option, codes, refl, ap, subst}
use Rattle.serde.specs.Event.{Log}
use Rattle.serde_json.specs.Data.{Data, member, no_members, object, string}
use Rattle.mds_marks.specs.Quality.{quality_text}
use Rattle.mds_marks.specs.Reading.{ReadingValue, value_text}
use Rattle.mds_marks.specs.Reason.{code_text}
use Rattle.mds_marks.specs.declared.mark.Mark.{Mark}
use Rattle.mds_answers.specs.Json.{reading_texts, whole}
use Rattle.mds_answers.specs.JsonSteps.{SendsText, SendsTexts}

-- the four texts of a reading, one after the other
pub reading_sent : (reading : ReadingValue) (mark : Mark) (code : Option ℕ) (text : List ℕ) (value : Option ℤ) (a b c d e : Log)
    → mark ≡ reading.mark → code ≡ mark.reason.code → text ≡ mark.reason.text → value ≡ reading.value
    → SendsText (quality_text mark.quality) a b → SendsText (code_text code) b c → SendsText text c d → SendsText (value_text value) d e
    → SendsTexts (reading_texts reading) a e
reading_sent reading mark code text value a b c d e mark_is code_is text_is value_is quality coded said valued =
    let first = subst (λ (m : Mark). SendsText (quality_text m.quality) a b) mark_is quality in
    let second = subst (λ (o : Option ℕ). SendsText (code_text o) b c) (code_is ∙ ap (λ (m : Mark). m.reason.code) mark_is) coded in
    let third = subst (λ (t : List ℕ). SendsText t c d) (text_is ∙ ap (λ (m : Mark). m.reason.text) mark_is) said in
    let fourth = subst (λ (v : Option ℤ). SendsText (value_text v) d e) value_is valued in
    (b, first, (c, second, (d, third, (e, fourth, refl))))

-- the data of a known day
abbrev pub day_json : (date : List ℕ) (events : Data) (minutes : ℕ) (nmi : List ℕ) (readings : Data) (suffix unit update : List ℕ) → Data
day_json date events minutes nmi readings suffix unit update =
    object (member (codes "date") (string date) (member (codes "events") events (member (codes "length") (whole minutes)
    (member (codes "nmi") (string nmi) (member (codes "readings") readings (member (codes "suffix") (string suffix)
    (member (codes "unit") (string unit) (member (codes "update") (string update) no_members))))))))

-- those of versions
abbrev pub versions_json : (date : List ℕ) (interval : ℕ) (nmi suffix : List ℕ) (versions : Data) → Data
versions_json date interval nmi suffix versions =
    object (member (codes "date") (string date) (member (codes "interval") (whole interval) (member (codes "nmi") (string nmi)
    (member (codes "suffix") (string suffix) (member (codes "versions") versions no_members)))))

-- those of accumulations
abbrev pub periods_json : (nmi : List ℕ) (periods : Data) (suffix : List ℕ) → Data
periods_json nmi periods suffix =
    object (member (codes "nmi") (string nmi) (member (codes "periods") periods (member (codes "suffix") (string suffix) no_members)))

-- those of a stream
abbrev pub stream_json : (configuration datastream meter next nmi register suffix : List ℕ) → Data
stream_json configuration datastream meter next nmi register suffix =
    object (member (codes "configuration") (string configuration) (member (codes "datastream") (string datastream)
    (member (codes "meter") (string meter) (member (codes "next") (string next) (member (codes "nmi") (string nmi)
    (member (codes "register") (string register) (member (codes "suffix") (string suffix) no_members)))))))
