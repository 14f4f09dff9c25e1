-- mds_period as data, whatever tables follow those that every schema has: an accumulation.
use Rattle.std.specs.Prelude.{codes}
use Rattle.std.proofs.Common.{refl, arith}
use Rattle.sqlite.specs.Listing.{understood}
use Rattle.sqlite_tied.specs.Compute.{everything}
use Rattle.mds_tables.specs.Tables.{More, period_table}
use Rattle.mds_tables.specs.declared.periods.PeriodRow.{PeriodRow}
use Rattle.mds_tables.specs.Parts.{period_part}
use Rattle.mds_tables.specs.Tabling.{IsTabled, Tabling, cast_int}

abbrev pub period_tabling : Tabling PeriodRow
period_tabling = record {
  place = period_part.place;
  table = period_table;
  behind = λ rest. rest;
  cells = period_part.cells;
  fact = period_part.fact;
  read = period_part.read;
  width = 7;
  one = codes "INSERT INTO mds_period (nmi, suffix, register, start, finish, moment, body) VALUES (?1, ?2, ?3, ?4, ?5, ?6, ?7)";
  many = codes "INSERT INTO mds_period (nmi, suffix, register, start, finish, moment, body) VALUES (?1, ?2, ?3, ?4, ?5, ?6, ?7), (?8, ?9, ?10, ?11, ?12, ?13, ?14), (?15, ?16, ?17, ?18, ?19, ?20, ?21), (?22, ?23, ?24, ?25, ?26, ?27, ?28), (?29, ?30, ?31, ?32, ?33, ?34, ?35), (?36, ?37, ?38, ?39, ?40, ?41, ?42), (?43, ?44, ?45, ?46, ?47, ?48, ?49), (?50, ?51, ?52, ?53, ?54, ?55, ?56), (?57, ?58, ?59, ?60, ?61, ?62, ?63), (?64, ?65, ?66, ?67, ?68, ?69, ?70), (?71, ?72, ?73, ?74, ?75, ?76, ?77), (?78, ?79, ?80, ?81, ?82, ?83, ?84), (?85, ?86, ?87, ?88, ?89, ?90, ?91), (?92, ?93, ?94, ?95, ?96, ?97, ?98), (?99, ?100, ?101, ?102, ?103, ?104, ?105), (?106, ?107, ?108, ?109, ?110, ?111, ?112)";
}

pub period_is : (rest : More) → IsTabled period_tabling rest
unfolding understood everything
period_is rest = record {
  placed = refl;
  wide = λ x. refl;
  fits = λ x. rw (cast_int, cast_int, cast_int) refl;
  says = λ x id. refl;
  one = record { is = refl; plain = (refl, refl); whole = (omega arith, refl, refl) };
  many = record { is = refl; plain = (refl, refl); whole = (omega arith, refl, refl) };
}
