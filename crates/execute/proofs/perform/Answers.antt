use mathlib.Core.Path.{refl, ◌∙◌}
use Rattle.control.proofs.Laws.{based, anchored-on}
use Rattle.execute.proofs.Laws.{even-row, takes_none, in_row, within, listed_in, stacked, roomy, past}
use native.Mathlib.Omega.{arith}
use Rattle.execute.proofs.perform.Goals as goal

pub row0-requires : goal.row0-requires
row0-requires c = (c.in-0.is, omega (arith, even-row c.requires.asks 0 c.in-0.is refl refl), c.requires.asks.controls.ready.own, c.requires.asks.controls.ready.near)

pub row1-requires : goal.row1-requires
row1-requires c = record { op_value = c.in-1.is; ready = c.requires.asks.controls.ready; r_bound = within c.requires.asks }

pub row2-requires : goal.row2-requires
row2-requires c = record { op_value = c.in-2.is; ready = c.requires.asks.controls.ready; r_bound = within c.requires.asks; store_len_bound = c.requires.asks.controls.framed.short }

pub row3-requires : goal.row3-requires
row3-requires c = record { op_value = c.in-3.is; ready = c.requires.asks.controls.ready; r_bound = within c.requires.asks; store_len_bound = c.requires.asks.controls.framed.short }

pub row4-requires : goal.row4-requires
row4-requires c = record { op_value = c.in-4.is; ready = c.requires.asks.controls.ready; store_len_bound = c.requires.asks.controls.framed.short }

pub row5-requires : goal.row5-requires
row5-requires c = record { op_value = c.in-5.is; ready = c.requires.asks.controls.ready; store_len_bound = c.requires.asks.controls.framed.short }

pub row6-requires : goal.row6-requires
row6-requires c = (c.in-6.is, omega (arith, even-row c.requires.asks 6 c.in-6.is refl refl), c.requires.asks.controls.ready.most, c.requires.asks.controls.ready.own, c.requires.asks.controls.ready.near)

pub row7-requires : goal.row7-requires
row7-requires c = (c.in-7.is, omega (arith, even-row c.requires.asks 7 c.in-7.is refl refl), c.requires.asks.controls.ready.most, c.requires.asks.controls.ready.own, c.requires.asks.controls.ready.near)

pub row8-requires : goal.row8-requires
row8-requires c = record { op_value = c.in-8.is; bound = listed_in c.requires.asks 8 c.in-8.is refl; ready = c.requires.asks.controls.ready; store_len_bound = c.requires.asks.controls.framed.short }

pub row9-requires : goal.row9-requires
row9-requires c = record { op_value = c.in-9.is; bound = listed_in c.requires.asks 9 c.in-9.is refl; ready = c.requires.asks.controls.ready; store_len_bound = c.requires.asks.controls.framed.short }

pub row10-requires : goal.row10-requires
row10-requires c = record { op_value = c.in-10.is; bound = listed_in c.requires.asks 10 c.in-10.is refl; ready = c.requires.asks.controls.ready; start_bound = (omega (arith, c.requires.asks.controls.inside), c.requires.inputs_len.0, c.requires.inputs_len.1); mapped = c.requires.asks.mapped; framed = c.requires.asks.controls.framed; anchored = c.requires.asks.anchored }

pub row11-requires : goal.row11-requires
row11-requires c = record { op_value = c.in-11.is; bound = listed_in c.requires.asks 11 c.in-11.is refl; stacked = stacked c.requires.asks; roomy = roomy c.requires.asks; pc_in_bounds = (c.requires.asks.here, c.requires.asks.front) }

pub row12-requires : goal.row12-requires
row12-requires c = record { op_value = c.in-12.is; bound = listed_in c.requires.asks 12 c.in-12.is refl; stacked = stacked c.requires.asks }

pub row13-requires : goal.row13-requires
row13-requires c = record { op_value = c.in-13.is; bound = listed_in c.requires.asks 13 c.in-13.is refl; stacked = stacked c.requires.asks }

pub row14-requires : goal.row14-requires
row14-requires c = record { op_value = c.in-14.is; controls = (λ n. (c.requires.asks.controls, c.requires.asks.mapped, c.requires.asks.listed n)); anchored = c.requires.asks.anchored }

pub row15-requires : goal.row15-requires
row15-requires c = record { op_value = (omega (arith, past _ 15 c.in_default.in_default-own.rest)); controls = c.requires.asks.controls; anchored = c.requires.asks.anchored }

pub returns-in-0 : goal.returns-in-0
returns-in-0 c = ((λ lent h. c.row0.ensures.0 lent _ _ _ ∙ in_row lent _ _ _ _ _ _ 0 c.in-0.is refl), takes_none c.args.op 0 c.args.r c.args.stack.now c.row0.result c.args.taken.now c.in-0.is refl, anchored-on c.requires.asks.anchored c.row0.ensures.1)

pub returns-in-1 : goal.returns-in-1
returns-in-1 c = ((λ lent h. c.row1.ensures.0 lent (based h.tabled c.requires.asks.anchored) _ _ ∙ in_row lent _ _ _ _ _ _ 1 c.in-1.is refl), takes_none c.args.op 1 c.args.r c.args.stack.now c.row1.result c.args.taken.now c.in-1.is refl, anchored-on c.requires.asks.anchored c.row1.ensures.1)

pub returns-in-2 : goal.returns-in-2
returns-in-2 c = ((λ lent h. c.row2.ensures.0 lent (based h.tabled c.requires.asks.anchored) _ ∙ in_row lent _ _ _ _ _ _ 2 c.in-2.is refl), takes_none c.args.op 2 c.args.r c.args.stack.now c.row2.result c.args.taken.now c.in-2.is refl, anchored-on c.requires.asks.anchored c.row2.ensures.1)

pub returns-in-3 : goal.returns-in-3
returns-in-3 c = ((λ lent h. c.row3.ensures.0 lent (based h.tabled c.requires.asks.anchored) _ ∙ in_row lent _ _ _ _ _ _ 3 c.in-3.is refl), takes_none c.args.op 3 c.args.r c.args.stack.now c.row3.result c.args.taken.now c.in-3.is refl, anchored-on c.requires.asks.anchored c.row3.ensures.1)

pub returns-in-4 : goal.returns-in-4
returns-in-4 c = ((λ lent h. c.row4.ensures.0 lent _ (based h.tabled c.requires.asks.anchored) _ ∙ in_row lent _ _ _ _ _ _ 4 c.in-4.is refl), takes_none c.args.op 4 c.args.r c.args.stack.now c.row4.result c.args.taken.now c.in-4.is refl, anchored-on c.requires.asks.anchored c.row4.ensures.1)

pub returns-in-5 : goal.returns-in-5
returns-in-5 c = ((λ lent h. c.row5.ensures.0 lent _ (based h.tabled c.requires.asks.anchored) _ ∙ in_row lent _ _ _ _ _ _ 5 c.in-5.is refl), takes_none c.args.op 5 c.args.r c.args.stack.now c.row5.result c.args.taken.now c.in-5.is refl, anchored-on c.requires.asks.anchored c.row5.ensures.1)

pub returns-in-6 : goal.returns-in-6
returns-in-6 c = ((λ lent h. c.row6.ensures.0 lent _ _ ∙ in_row lent _ _ _ _ _ _ 6 c.in-6.is refl), takes_none c.args.op 6 c.args.r c.args.stack.now c.row6.result c.args.taken.now c.in-6.is refl, anchored-on c.requires.asks.anchored c.row6.ensures.1)

pub returns-in-7 : goal.returns-in-7
returns-in-7 c = ((λ lent h. c.row7.ensures.0 lent _ _ ∙ in_row lent _ _ _ _ _ _ 7 c.in-7.is refl), takes_none c.args.op 7 c.args.r c.args.stack.now c.row7.result c.args.taken.now c.in-7.is refl, anchored-on c.requires.asks.anchored c.row7.ensures.1)

pub returns-in-8 : goal.returns-in-8
returns-in-8 c = ((λ lent h. c.row8.ensures.0 lent _ ∙ in_row lent _ _ _ _ _ _ 8 c.in-8.is refl), takes_none c.args.op 8 c.args.r c.args.stack.now c.row8.result c.args.taken.now c.in-8.is refl, anchored-on c.requires.asks.anchored c.row8.ensures.1)

pub returns-in-9 : goal.returns-in-9
returns-in-9 c = ((λ lent h. c.row9.ensures.0 lent _ ∙ in_row lent _ _ _ _ _ _ 9 c.in-9.is refl), takes_none c.args.op 9 c.args.r c.args.stack.now c.row9.result c.args.taken.now c.in-9.is refl, anchored-on c.requires.asks.anchored c.row9.ensures.1)

pub returns-in-10 : goal.returns-in-10
returns-in-10 c = ((λ lent h. c.row10.ensures.0 lent h ∙ in_row lent _ _ _ _ _ _ 10 c.in-10.is refl), c.row10.ensures.1, c.row10.ensures.2)

pub returns-in-11 : goal.returns-in-11
returns-in-11 c = ((λ lent h. c.row11.ensures.0 lent _ _ _ h c.requires.asks.anchored _ _ ∙ in_row lent _ _ _ _ _ _ 11 c.in-11.is refl), takes_none c.args.op 11 c.args.r c.args.stack.now c.row11.result c.args.taken.now c.in-11.is refl, anchored-on c.requires.asks.anchored c.row11.ensures.1)

pub returns-in-12 : goal.returns-in-12
returns-in-12 c = ((λ lent h. c.row12.ensures.0 lent _ _ _ ∙ in_row lent _ _ _ _ _ _ 12 c.in-12.is refl), takes_none c.args.op 12 c.args.r c.args.stack.now c.row12.result c.args.taken.now c.in-12.is refl, anchored-on c.requires.asks.anchored c.row12.ensures.1)

pub returns-in-13 : goal.returns-in-13
returns-in-13 c = ((λ lent h. c.row13.ensures.0 lent _ _ _ ∙ in_row lent _ _ _ _ _ _ 13 c.in-13.is refl), takes_none c.args.op 13 c.args.r c.args.stack.now c.row13.result c.args.taken.now c.in-13.is refl, anchored-on c.requires.asks.anchored c.row13.ensures.1)

pub returns-in-14 : goal.returns-in-14
returns-in-14 c = ((λ lent h. c.row14.ensures.0 lent _ h _), takes_none c.args.op 14 c.args.r c.args.stack.now c.row14.result c.args.taken.now c.in-14.is refl, c.row14.ensures.1)

pub returns-in_default : goal.returns-in_default
returns-in_default c = ((λ lent h. c.row15.ensures.0 lent _ _ h _ _ ∙ in_row lent _ _ _ _ _ _ 15 ((omega (arith, past _ 15 c.in_default.in_default-own.rest))) refl), takes_none c.args.op 15 c.args.r c.args.stack.now c.row15.result c.args.taken.now ((omega (arith, past _ 15 c.in_default.in_default-own.rest))) refl, c.row15.ensures.1)
