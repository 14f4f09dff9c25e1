use Rattle.std.proofs.Common.{◌≡◌, ◌≤◌, ℕ, zero, suc, ap, arith, refl, sym}
use Rattle.mds_pack_rows.specs.FormTables.{create_form}
use Rattle.mds_pack_rows.specs.Making.{create}
use Rattle.mds_pack_rows.proofs.making.statement.Goals as goal

-- the last one comes behind all others
last_text : (n : ℕ) → 10 ≤ n → create_form ≡ create n
last_text zero late = absurd (omega arith)
last_text (suc zero) late = absurd (omega arith)
last_text (suc (suc zero)) late = absurd (omega arith)
last_text (suc (suc (suc zero))) late = absurd (omega arith)
last_text (suc (suc (suc (suc zero)))) late = absurd (omega arith)
last_text (suc (suc (suc (suc (suc zero))))) late = absurd (omega arith)
last_text (suc (suc (suc (suc (suc (suc zero)))))) late = absurd (omega arith)
last_text (suc (suc (suc (suc (suc (suc (suc zero))))))) late = absurd (omega arith)
last_text (suc (suc (suc (suc (suc (suc (suc (suc zero)))))))) late = absurd (omega arith)
last_text (suc (suc (suc (suc (suc (suc (suc (suc (suc zero))))))))) late = absurd (omega arith)
last_text (suc (suc (suc (suc (suc (suc (suc (suc (suc (suc n)))))))))) late = refl

pub returns-in-0 : goal.returns-in-0
returns-in-0 c = ap create (sym c.in-0.is)

pub returns-in-1 : goal.returns-in-1
returns-in-1 c = ap create (sym c.in-1.is)

pub returns-in-2 : goal.returns-in-2
returns-in-2 c = ap create (sym c.in-2.is)

pub returns-in-3 : goal.returns-in-3
returns-in-3 c = ap create (sym c.in-3.is)

pub returns-in-4 : goal.returns-in-4
returns-in-4 c = ap create (sym c.in-4.is)

pub returns-in-5 : goal.returns-in-5
returns-in-5 c = ap create (sym c.in-5.is)

pub returns-in-6 : goal.returns-in-6
returns-in-6 c = ap create (sym c.in-6.is)

pub returns-in-7 : goal.returns-in-7
returns-in-7 c = ap create (sym c.in-7.is)

pub returns-in-8 : goal.returns-in-8
returns-in-8 c = ap create (sym c.in-8.is)

pub returns-in-9 : goal.returns-in-9
returns-in-9 c = ap create (sym c.in-9.is)

pub returns-in_default : goal.returns-in_default
returns-in_default c = last_text c.args.n (omega arith)
