-- The code of a fact, made of those of its parts: the order of facts is the order of codes
-- (profile).
use Rattle.std.specs.Prelude.{◌≡◌, ◌⊎◌, ℕ, List, [], ◌∷◌, Option, refl}
use Rattle.std.proofs.Common.{inl, inr, suc, zero}
use Rattle.std.specs.Coded.{Coded, code_by, coded×, coded⊎, coded_ℕ, coded_ℤ, coded_list, coded_option}
use Rattle.mds_quantity.specs.declared.unit.Unit.{Unit as MeasureUnit}
use Rattle.mds_quantity.specs.declared.unit.Unit.TheVariants.{MWh, KWh, Wh, MVArh, KVArh, VArh, MVAr, KVAr, VAr, MW, KW, W, MVAh, KVAh, VAh, MVA, KVA, VA, KV, V, KA, A, Pf}
use Rattle.mds_names.specs.declared.stream.Stream.{Stream}
use Rattle.mds_marks.specs.Quality.{QualityValue}
use Rattle.mds_marks.specs.Reason.{ReasonValue}
use Rattle.mds_marks.specs.declared.mark.Mark.{Mark}
use Rattle.mds_marks.specs.Reading.{ReadingValue}
use Rattle.mds_terms.specs.Details.{DetailsValue}
use Rattle.mds_terms.specs.Event.{EventValue}
use Rattle.mds_world.specs.declared.facts.Key.{Key}
use Rattle.mds_world.specs.declared.facts.Head.{Head}
use Rattle.mds_world.specs.declared.facts.Detail.{Detail}
use Rattle.mds_world.specs.Facts.{Fact, PeriodContent, JobContent, detail_at, head_at, key_at}
use Rattle.mds_statements.specs.declared.periods.PeriodKey.{PeriodKey}
use Rattle.mds_world.specs.Facts.Fact.{HeadIs, VersionIs, DetailIs, EventIs, PeriodIs, HolidayIs, JobIs}

coded_text : Coded (List ℕ)
coded_text = coded_list coded_ℕ

-- a unit's position in the standard's list
abbrev place : MeasureUnit → ℕ
place MWh = 0
place KWh = 1
place Wh = 2
place MVArh = 3
place KVArh = 4
place VArh = 5
place MVAr = 6
place KVAr = 7
place VAr = 8
place MW = 9
place KW = 10
place W = 11
place MVAh = 12
place KVAh = 13
place VAh = 14
place MVA = 15
place KVA = 16
place VA = 17
place KV = 18
place V = 19
place KA = 20
place A = 21
place Pf = 22

abbrev units : List MeasureUnit
units =
    MWh ∷ KWh ∷ Wh ∷ MVArh ∷ KVArh ∷ VArh ∷ MVAr ∷ KVAr ∷ VAr ∷ MW ∷ KW ∷ W ∷ MVAh ∷ KVAh ∷ VAh ∷ MVA ∷ KVA ∷ VA ∷ KV
    ∷ V ∷ KA ∷ A ∷ Pf ∷ []

-- the unit at a position in a list
abbrev unit_at : List MeasureUnit → ℕ → MeasureUnit
unit_at [] n = MWh
unit_at (unit ∷ rest) zero = unit
unit_at (unit ∷ rest) (suc n) = unit_at rest n

placed : (unit : MeasureUnit) → unit_at units (place unit) ≡ unit
placed MWh = refl
placed KWh = refl
placed Wh = refl
placed MVArh = refl
placed KVArh = refl
placed VArh = refl
placed MVAr = refl
placed KVAr = refl
placed VAr = refl
placed MW = refl
placed KW = refl
placed W = refl
placed MVAh = refl
placed KVAh = refl
placed VAh = refl
placed MVA = refl
placed KVA = refl
placed VA = refl
placed KV = refl
placed V = refl
placed KA = refl
placed A = refl
placed Pf = refl

pub coded_measure : Coded MeasureUnit
coded_measure = code_by ℕ coded_ℕ place (unit_at units) placed

pub coded_stream : Coded Stream
coded_stream =
    code_by _ (coded× coded_text coded_text)
    (λ s. (s.nmi, s.suffix))
    (λ p. record { nmi = p.0; suffix = p.1 })
    (λ _. refl)

coded_quality : Coded QualityValue
coded_quality =
    code_by _ (coded× coded_ℕ coded_ℕ)
    (λ q. (q.flag, q.method))
    (λ p. record { flag = p.0; method = p.1 })
    (λ _. refl)

coded_reason : Coded ReasonValue
coded_reason =
    code_by _ (coded× (coded_option coded_ℕ) coded_text)
    (λ r. (r.code, r.text))
    (λ p. record { code = p.0; text = p.1 })
    (λ _. refl)

coded_mark : Coded Mark
coded_mark =
    code_by _ (coded× coded_quality coded_reason)
    (λ m. (m.quality, m.reason))
    (λ p. record { quality = p.0; reason = p.1 })
    (λ _. refl)

pub coded_reading : Coded ReadingValue
coded_reading =
    code_by _ (coded× coded_mark (coded_option coded_ℤ))
    (λ r. (r.mark, r.value))
    (λ p. record { mark = p.0; value = p.1 })
    (λ _. refl)

coded_details : Coded DetailsValue
coded_details =
    code_by _ (coded× coded_text (coded× coded_text (coded× coded_text (coded× coded_text (coded_option coded_ℕ)))))
    (λ d. (d.configuration, (d.register, (d.datastream, (d.meter, d.next)))))
    (λ p. record {
      configuration = p.0;
      register = p.1.0;
      datastream = p.1.1.0;
      meter = p.1.1.1.0;
      next = p.1.1.1.1;
    })
    (λ _. refl)

-- the code of an event's transaction code, service order, moment and index read
coded_read : Coded (Option ℕ × (List ℕ × (Option ℕ × List ℕ)))
coded_read = coded× (coded_option coded_ℕ) (coded× coded_text (coded× (coded_option coded_ℕ) coded_text))

coded_event : Coded EventValue
coded_event =
    code_by _ (coded× coded_text (coded× coded_text (coded× coded_ℕ coded_read)))
    (λ e. (e.nmi, (e.suffix, (e.day, (e.trans, (e.ticket, (e.moment, e.reading)))))))
    (λ p. record {
      nmi = p.0;
      suffix = p.1.0;
      day = p.1.1.0;
      trans = p.1.1.1.0;
      ticket = p.1.1.1.1.0;
      moment = p.1.1.1.1.1.0;
      reading = p.1.1.1.1.1.1;
    })
    (λ _. refl)

coded_head : Coded Head
coded_head =
    code_by _ (coded× coded_stream (coded× coded_ℕ (coded× coded_ℕ (coded× coded_ℕ coded_measure))))
    (λ h. (h.stream, (h.day, (h.update, (h.length, h.unit)))))
    (λ p. head_at p.0 p.1.0 p.1.1.0 p.1.1.1.0 p.1.1.1.1)
    (λ _. refl)

pub coded_key : Coded Key
coded_key =
    code_by _ (coded× coded_stream (coded× coded_ℕ (coded× coded_ℕ (coded× coded_ℕ coded_ℕ))))
    (λ k. (k.stream, (k.day, (k.length, (k.interval, k.update)))))
    (λ p. key_at p.0 p.1.0 p.1.1.0 p.1.1.1.0 p.1.1.1.1)
    (λ _. refl)

coded_detail : Coded Detail
coded_detail =
    code_by _ (coded× coded_stream (coded× coded_ℕ (coded× coded_ℕ coded_details)))
    (λ d. (d.stream, (d.day, (d.moment, d.details))))
    (λ p. detail_at p.0 p.1.0 p.1.1.0 p.1.1.1)
    (λ _. refl)

coded_period_key : Coded PeriodKey
coded_period_key =
    code_by _ (coded× coded_stream (coded× coded_text (coded× coded_ℕ (coded× coded_ℕ coded_ℕ))))
    (λ k. (k.stream, (k.register, (k.start, (k.finish, k.update)))))
    (λ p. record { stream = p.0; register = p.1.0; start = p.1.1.0; finish = p.1.1.1.0; update = p.1.1.1.1 })
    (λ _. refl)

coded_period : Coded PeriodContent
coded_period =
    code_by _ (coded× (coded_list coded_text) (coded_list (coded_list coded_text)))
    (λ c. (c.fields, c.notes))
    (λ p. record { fields = p.0; notes = p.1 })
    (λ _. refl)

-- the code of a job's day, first and last interval, length and unit
coded_span : Coded (ℕ × (ℕ × (ℕ × (ℕ × MeasureUnit))))
coded_span = coded× coded_ℕ (coded× coded_ℕ (coded× coded_ℕ (coded× coded_ℕ coded_measure)))

-- the code of a job's method, flag, code, text and update
coded_substitution : Coded (ℕ × (ℕ × (Option ℕ × (List ℕ × ℕ))))
coded_substitution =
    coded× coded_ℕ (coded× coded_ℕ (coded× (coded_option coded_ℕ) (coded× coded_text coded_ℕ)))

coded_job : Coded JobContent
coded_job =
    code_by _ (coded× coded_stream (coded× coded_span coded_substitution))
    (λ j.
    (j.stream, ((j.day, (j.first, (j.last, (j.length, j.unit)))), (j.method, (j.flag, (j.code, (j.text, j.update)))))))
    (λ p. let span = p.1.0 in let rest = p.1.1 in record {
      stream = p.0;
      day = span.0;
      first = span.1.0;
      last = span.1.1.0;
      length = span.1.1.1.0;
      unit = span.1.1.1.1;
      method = rest.0;
      flag = rest.1.0;
      code = rest.1.1.0;
      text = rest.1.1.1.0;
      update = rest.1.1.1.1;
    })
    (λ _. refl)

-- the parts of a fact of each kind
abbrev Parts : Type 0
Parts =
    Head ⊎ ((Key × ReadingValue) ⊎ (Detail ⊎ (EventValue
    ⊎ ((PeriodKey × PeriodContent) ⊎ (ℕ ⊎ (List ℕ × (JobContent × ℕ)))))))

abbrev parts : Fact → Parts
parts (HeadIs head) = inl head
parts (VersionIs key reading) = inr (inl (key, reading))
parts (DetailIs detail) = inr (inr (inl detail))
parts (EventIs event) = inr (inr (inr (inl event)))
parts (PeriodIs key content) = inr (inr (inr (inr (inl (key, content)))))
parts (HolidayIs day) = inr (inr (inr (inr (inr (inl day)))))
parts (JobIs id content count) = inr (inr (inr (inr (inr (inr (id, (content, count)))))))

abbrev fact : Parts → Fact
fact (inl head) = HeadIs head
fact (inr (inl p)) = VersionIs p.0 p.1
fact (inr (inr (inl detail))) = DetailIs detail
fact (inr (inr (inr (inl event)))) = EventIs event
fact (inr (inr (inr (inr (inl p))))) = PeriodIs p.0 p.1
fact (inr (inr (inr (inr (inr (inl day)))))) = HolidayIs day
fact (inr (inr (inr (inr (inr (inr p)))))) = JobIs p.0 p.1.0 p.1.1

same_fact : (f : Fact) → fact (parts f) ≡ f
same_fact (HeadIs head) = refl
same_fact (VersionIs key reading) = refl
same_fact (DetailIs detail) = refl
same_fact (EventIs event) = refl
same_fact (PeriodIs key content) = refl
same_fact (HolidayIs day) = refl
same_fact (JobIs id content count) = refl

pub coded_fact : Coded Fact
coded_fact =
    code_by Parts
    (coded⊎ coded_head (coded⊎ (coded× coded_key coded_reading) (coded⊎ coded_detail (coded⊎ coded_event
    (coded⊎ (coded× coded_period_key coded_period) (coded⊎ coded_ℕ (coded× coded_text (coded× coded_job coded_ℕ))))))))
    parts fact same_fact
