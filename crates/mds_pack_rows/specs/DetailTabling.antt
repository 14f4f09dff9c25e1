-- mds_daydetail as data, whatever tables follow it: details, on a day.
use Rattle.std.specs.Prelude.{ℕ, codes}
use Rattle.std.proofs.Common.{[], ◌∷◌, refl, arith}
use Rattle.sqlite.specs.Listing.{understood}
use Rattle.sqlite_tied.specs.Compute.{everything}
use Rattle.mds_keeper.specs.Content.{detail_on}
use Rattle.mds_keeper.specs.declared.additions.DetailDays.{DetailDays}
use Rattle.mds_tables.specs.Tables.{More}
use Rattle.mds_tables.proofs.InsertLemmas.{cast_int}
use Rattle.mds_tables.specs.Parts.{detail_part}
use Rattle.mds_tables.specs.Tabling.{IsTabled, Tabling}
use Rattle.mds_tables.proofs.PutLemmas.{cast_optional}
use Rattle.mds_tables.proofs.RowLemmas.{says_details}
use Rattle.mds_pack_rows.specs.DailyTables.{daily_then, daydetail_table}

abbrev pub detail_tabling : DetailDays → Tabling ℕ
detail_tabling details = record {
  place = detail_part.place;
  table = daydetail_table;
  behind = daily_then;
  cells = λ day. detail_part.cells (detail_on details day);
  fact = λ day. detail_part.fact (detail_on details day);
  read = detail_part.read;
  width = 9;
  one = codes "INSERT INTO mds_daydetail (nmi, suffix, day, moment, configuration, register, datastream, meter, next) VALUES (?1, ?2, ?3, ?4, ?5, ?6, ?7, ?8, ?9)";
  many = codes "INSERT INTO mds_daydetail (nmi, suffix, day, moment, configuration, register, datastream, meter, next) VALUES (?1, ?2, ?3, ?4, ?5, ?6, ?7, ?8, ?9), (?10, ?11, ?12, ?13, ?14, ?15, ?16, ?17, ?18), (?19, ?20, ?21, ?22, ?23, ?24, ?25, ?26, ?27), (?28, ?29, ?30, ?31, ?32, ?33, ?34, ?35, ?36), (?37, ?38, ?39, ?40, ?41, ?42, ?43, ?44, ?45), (?46, ?47, ?48, ?49, ?50, ?51, ?52, ?53, ?54), (?55, ?56, ?57, ?58, ?59, ?60, ?61, ?62, ?63), (?64, ?65, ?66, ?67, ?68, ?69, ?70, ?71, ?72), (?73, ?74, ?75, ?76, ?77, ?78, ?79, ?80, ?81), (?82, ?83, ?84, ?85, ?86, ?87, ?88, ?89, ?90), (?91, ?92, ?93, ?94, ?95, ?96, ?97, ?98, ?99), (?100, ?101, ?102, ?103, ?104, ?105, ?106, ?107, ?108), (?109, ?110, ?111, ?112, ?113, ?114, ?115, ?116, ?117), (?118, ?119, ?120, ?121, ?122, ?123, ?124, ?125, ?126), (?127, ?128, ?129, ?130, ?131, ?132, ?133, ?134, ?135), (?136, ?137, ?138, ?139, ?140, ?141, ?142, ?143, ?144)";
}

pub detail_is : (details : DetailDays) (rest : More) → IsTabled (detail_tabling details) rest
unfolding understood everything
detail_is details rest = record {
  placed = refl;
  wide = λ x. refl;
  fits = λ x. rw (cast_int, cast_int, cast_optional) refl;
  says = λ x. (says_details (detail_on details x ∷ [])).0;
  one = record { is = refl; plain = (refl, refl); whole = (omega arith, refl, refl) };
  many = record { is = refl; plain = (refl, refl); whole = (omega arith, refl, refl) };
}
