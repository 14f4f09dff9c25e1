-- mds_form as data, whatever tables follow it: a head, but for its unit.
use Rattle.std.specs.Prelude.{codes}
use Rattle.std.proofs.Common.{refl, arith}
use Rattle.sqlite.specs.Listing.{understood}
use Rattle.sqlite_tied.specs.Compute.{everything}
use Rattle.mds_world.specs.declared.facts.Head.{Head}
use Rattle.mds_tables.specs.Tables.{More}
use Rattle.mds_tables.proofs.InsertLemmas.{cast_int}
use Rattle.mds_tables.specs.Tabling.{IsTabled, Tabling}
use Rattle.mds_pack_rows.specs.FormTables.{form_table, formed_then}
use Rattle.mds_commit.specs.FormPutting.{form_part}

abbrev pub form_tabling : Tabling Head
form_tabling = record {
  place = form_part.place;
  table = form_table;
  behind = formed_then;
  cells = form_part.cells;
  fact = form_part.fact;
  read = form_part.read;
  width = 5;
  one = codes "INSERT INTO mds_form (nmi, suffix, day, moment, length) VALUES (?1, ?2, ?3, ?4, ?5)";
  many = codes "INSERT INTO mds_form (nmi, suffix, day, moment, length) VALUES (?1, ?2, ?3, ?4, ?5), (?6, ?7, ?8, ?9, ?10), (?11, ?12, ?13, ?14, ?15), (?16, ?17, ?18, ?19, ?20), (?21, ?22, ?23, ?24, ?25), (?26, ?27, ?28, ?29, ?30), (?31, ?32, ?33, ?34, ?35), (?36, ?37, ?38, ?39, ?40), (?41, ?42, ?43, ?44, ?45), (?46, ?47, ?48, ?49, ?50), (?51, ?52, ?53, ?54, ?55), (?56, ?57, ?58, ?59, ?60), (?61, ?62, ?63, ?64, ?65), (?66, ?67, ?68, ?69, ?70), (?71, ?72, ?73, ?74, ?75), (?76, ?77, ?78, ?79, ?80)";
}

pub form_is : (rest : More) → IsTabled form_tabling rest
unfolding understood everything
form_is rest = record {
  placed = refl;
  wide = λ x. refl;
  fits = λ x. rw (cast_int, cast_int, cast_int) refl;
  says = λ x id. refl;
  one = record { is = refl; plain = (refl, refl); whole = (omega arith, refl, refl) };
  many = record { is = refl; plain = (refl, refl); whole = (omega arith, refl, refl) };
}
