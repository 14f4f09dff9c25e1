use Rattle.std.proofs.Common.{[], ◌++◌, refl, slice_index_or, subst, sym}
use Rattle.mds_commit.specs.Ranges.{AreOfDay}
use Rattle.mds_commit.proofs.CutLemmas.{all_cut, both_at, cut_more, cut_off, none_cut}
use Rattle.mds_commit.proofs.ranges.cut_by_day.Goals as goal

pub loop-i-init : goal.loop-i-init
loop-i-init c = record {
  used_forms = [];
  used_packs = [];
  of_forms = refl;
  of_packs = refl;
  cut = none_cut c.args.stream.now c.in_ok-books.books.items c.in_ok-books.ensures.items;
}

pub loop-i-preserved : goal.loop-i-preserved
loop-i-preserved c =
    let it = c.loop-i.invariant in
    let days = c.args.days.now in
    let i = c.loop-i.i in
    let day = (slice_index_or days i c.index-days-i.result).0 in
    let unit = (slice_index_or days i c.index-days-i-in-loop-i.result).1 in
    let forms = c.split_at.result.0.now in
    let packs = c.split_at-in-loop-i.result.0.now in
    record {
      used_forms = it.used_forms ++ forms;
      used_packs = it.used_packs ++ packs;
      of_forms = cut_off c.args.forms.now it.used_forms c.loop-i.forms_left.now forms c.split_at.result.1.now it.of_forms c.split_at.ensures.by_index.0;
      of_packs = cut_off c.args.packs.now it.used_packs c.loop-i.packs_left.now packs c.split_at-in-loop-i.result.1.now it.of_packs
          c.split_at-in-loop-i.ensures.by_index.0;
      cut = cut_more c.args.stream.now days c.requires i c.loop-i-test.true day unit
          (both_at days i c.index-days-i.result c.index-days-i-in-loop-i.result (day, unit) c.loop-i-test.true)
          it.used_forms it.used_packs forms packs c.loop-i.books.items c.add_day.new.books.items it.cut
          (subst (AreOfDay day) (sym c.split_at.ensures.front) c.count_of_day.ensures.alike)
          (subst (AreOfDay day) (sym c.split_at-in-loop-i.ensures.front) c.count_of_day-in-loop-i.ensures.alike) c.in_ok-add_day.ensures;
    }

pub returns : goal.returns
returns c =
    let it = c.loop-i.invariant in
    let none = c.are_none.ensures.0 c.if-not-are_none.false in
    all_cut c.args.stream.now c.args.days.now c.loop-i.i c.args.forms.now c.args.packs.now it.used_forms it.used_packs c.loop-i.forms_left.now
    c.loop-i.packs_left.now c.loop-i.books.items c.loop-i-test.false it.of_forms it.of_packs none.0 none.1 it.cut
