-- How the refusals of the machine are printed (profile).
use Rattle.std.specs.Prelude.{ℕ, ◌==◌, if◌then◌else◌, List, [], ◌++◌, codes, decimal}
use Rattle.mds_keeper.specs.declared.refusal.Refusal.{Refusal}
use Rattle.mds_keeper.specs.declared.refusal.RefusalCode.{RefusalCode}
use Rattle.mds_keeper.specs.declared.refusal.RefusalCode.TheVariants.{LengthConflict, UnitConflict, VersionConflict, JobReused, Protected, StaleUpdate, NoLikeDay, TooLong, NoAnchor, UnknownDay, BadJob, RangeTooWide}

-- the code of the rule
abbrev pub code_text : RefusalCode → List ℕ
code_text LengthConflict = codes "M1"
code_text UnitConflict = codes "M2"
code_text VersionConflict = codes "M3"
code_text JobReused = codes "M4"
code_text Protected = codes "M5"
code_text StaleUpdate = codes "M6"
code_text NoLikeDay = codes "M7"
code_text TooLong = codes "M8"
code_text NoAnchor = codes "M9"
code_text UnknownDay = codes "M10"
code_text BadJob = codes "M11"
code_text RangeTooWide = codes "M12"

-- a number after its name, if it isn't 0
abbrev pub place_text : List ℕ → ℕ → List ℕ
place_text name n = if n == 0 then [] else (name ++ decimal n)

-- the code, and the line, field and interval that apply, as in `M3 line 4 interval 7`
abbrev pub refusal_text : Refusal → List ℕ
refusal_text r =
    code_text r.code ++ place_text (codes " line ") r.line ++ place_text (codes " field ") r.field
    ++ place_text (codes " interval ") r.interval
