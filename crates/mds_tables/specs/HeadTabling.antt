-- mds_head as data, whatever tables follow those that every schema has: a new day, and its unit.
use Rattle.std.specs.Prelude.{◌≡◌, ◌∷◌, Some, codes, unwrap_or}
use Rattle.std.proofs.Common.{refl, ap, arith}
use Rattle.sqlite.specs.Listing.{understood}
use Rattle.sqlite.specs.declared.types.Value.{Value}
use Rattle.sqlite_tied.specs.Compute.{everything}
use Rattle.mds_quantity.specs.Unit.{unit_of, unit_text}
use Rattle.mds_quantity.specs.declared.unit.Unit.{Unit as MeasureUnit}
use Rattle.mds_quantity.specs.declared.unit.Unit.TheVariants.{MWh, KWh, Wh, MVArh, KVArh, VArh, MVAr, KVAr, VAr, MW, KW, W, MVAh, KVAh, VAh, MVA, KVA, VA, KV, V, KA, A, Pf}
use Rattle.mds_world.specs.Facts.{head_at}
use Rattle.mds_world.specs.Facts.Fact.{HeadIs}
use Rattle.mds_world.specs.declared.facts.Head.{Head}
use Rattle.mds_tables.specs.Tables.{More, head_table}
use Rattle.mds_tables.specs.Cells.{unit_cells}
use Rattle.mds_tables.specs.RowFacts.{head_fact, unit_named}
use Rattle.mds_tables.specs.Parts.{head_part}
use Rattle.mds_tables.specs.Tabling.{IsTabled, Tabling, cast_int}

abbrev pub head_tabling : Tabling Head
head_tabling = record {
  place = head_part.place;
  table = head_table;
  behind = λ rest. rest;
  cells = head_part.cells;
  fact = head_part.fact;
  read = head_part.read;
  width = 5;
  one = codes "INSERT INTO mds_head (nmi, suffix, day, length, unit) VALUES (?1, ?2, ?3, ?4, ?5)";
  many = codes "INSERT INTO mds_head (nmi, suffix, day, length, unit) VALUES (?1, ?2, ?3, ?4, ?5), (?6, ?7, ?8, ?9, ?10), (?11, ?12, ?13, ?14, ?15), (?16, ?17, ?18, ?19, ?20), (?21, ?22, ?23, ?24, ?25), (?26, ?27, ?28, ?29, ?30), (?31, ?32, ?33, ?34, ?35), (?36, ?37, ?38, ?39, ?40), (?41, ?42, ?43, ?44, ?45), (?46, ?47, ?48, ?49, ?50), (?51, ?52, ?53, ?54, ?55), (?56, ?57, ?58, ?59, ?60), (?61, ?62, ?63, ?64, ?65), (?66, ?67, ?68, ?69, ?70), (?71, ?72, ?73, ?74, ?75), (?76, ?77, ?78, ?79, ?80)";
}

-- a row of mds_head without a length says a day and its unit
pub unit_back : (id : Value) (h : Head) → unit_of (unit_text h.unit) ≡ Some h.unit
    → head_fact (id ∷ unit_cells h) ≡ HeadIs (head_at h.stream h.day 0 0 h.unit)
unit_back id h reads =
    let unit : unit_named (unit_text h.unit) ≡ h.unit = ap (λ o. unwrap_or o MWh) reads in
    λ i. HeadIs (head_at h.stream h.day 0 0 (unit i))

-- each unit's text reads as that unit
pub reads_back : (u : MeasureUnit) → unit_of (unit_text u) ≡ Some u
unfolding unit_of
reads_back MWh = refl
reads_back KWh = refl
reads_back Wh = refl
reads_back MVArh = refl
reads_back KVArh = refl
reads_back VArh = refl
reads_back MVAr = refl
reads_back KVAr = refl
reads_back VAr = refl
reads_back MW = refl
reads_back KW = refl
reads_back W = refl
reads_back MVAh = refl
reads_back KVAh = refl
reads_back VAh = refl
reads_back MVA = refl
reads_back KVA = refl
reads_back VA = refl
reads_back KV = refl
reads_back V = refl
reads_back KA = refl
reads_back A = refl
reads_back Pf = refl

pub head_is : (rest : More) → IsTabled head_tabling rest
unfolding understood everything
head_is rest = record {
  placed = refl;
  wide = λ x. refl;
  fits = λ x. rw (cast_int, cast_int) refl;
  says = λ x id. unit_back id x (reads_back x.unit);
  one = record { is = refl; plain = (refl, refl); whole = (omega arith, refl, refl) };
  many = record { is = refl; plain = (refl, refl); whole = (omega arith, refl, refl) };
}
