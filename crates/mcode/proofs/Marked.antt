-- The marked cases, all of them together, by computing: load's answer by the tests of Trace, and start and run as they are defined.
-- Assumes nothing.
use mathlib.Core.Path.{◌≡◌, refl}
use mathlib.Core.Bool.{Bool, true, false}
use mathlib.Core.List.{List, [], ◌∷◌}
use Prim.Native.Nat.{ℕ}
use lib.Dec.{eqb}
use lib.ListN.{length, replicate}
use Rattle.mcode.specs.Word.{pick, all_below, any_below, one_of, two_of, three_of, double_of}
use Rattle.mcode.specs.Opcode.{lengths, takens, lefts}
use Rattle.mcode.specs.Image.{byte_at, word_at, skip_at, bits_at, data_at, count_at, name_at, length_at, limited_at, record_at, records_at, body_at, module_at, refused_by, modules_from, parse, in_code}
use Rattle.mcode.specs.Depths.{unmarked, fits, mark_of, depth_of, promised, saves, list_of, front_of, is_list, is_mark, passed, stored, fetched, leaves, permits, depth_flow, target, jumps, calls, calls_in, onward, flow_at, marked, map_fits}
use Rattle.mcode.specs.Walk.{ways, ways_at, legible, named, cause_at, whole_at}
use Rattle.mcode.specs.Run.{Verdict}
use Rattle.mcode.specs.Machine.{is_machine}
use Rattle.mcode.specs.Decode.{row1, row2, row3, loads, stores, row8, row9, row10, row11, row12, row13, row14, row15, decode_of}
use Rattle.mcode.specs.Step.{followed, call, unit_of, back_to, returned, is_process, saved, restored, written, saved_store, restored_machine, changed, switched, transferred, stack_saved, stack_fetched, perform_of, instruction_of, highest, taken_line, attempt_of, is_caught, caught, trapped, step_of}
use Rattle.mcode.specs.Run.{verdict, fault_at, Loads, run_n, run_refusal, run_of, start_refusal, start_store, start_machine, start_of}
use Rattle.mcode.specs.Marked.{Expected, refuses, reads, Case, desk_of, Holds, AllHold, cases}
use Rattle.mcode.proofs.Trace.{gather, entered, forced, member, least_test, other, wrong, any_wrong, clash_test, accept_test, set_from, set_of, whole_test, unfit_test, broken_test, accepts, refuses-8, refuses-13}

-- the test of a refusal, 13 or 8
abbrev refuse_test : List ℕ → Verdict → Bool
refuse_test image v = pick (eqb v.number 13) (broken_test image v.unit v.pc.0) (unfit_test image)

-- what is computed of a case
abbrev Computed : List ℕ → ℕ → Expected → Type 0
Computed image n (refuses v) = ((parse image).refusal ≡ 0) × (refuse_test image v ≡ true) × (v ≡ pick (eqb v.number 13) (fault_at v.unit v.pc.0) (verdict 8))
Computed image n (reads map r) = ((parse image).refusal ≡ 0) × (accept_test image map ≡ true) × (desk_of image map n ≡ r)

holds : (image : List ℕ) (n : ℕ) (e : Expected) → Computed image n e → Holds image n e
holds image n (refuses v) c = rw c.2 (by (eqb v.number 13) c.1)
  where
    by : (t : Bool) → pick t (broken_test image v.unit v.pc.0) (unfit_test image) ≡ true
        → Loads image (replicate (length image) 0) (pick t (fault_at v.unit v.pc.0) (verdict 8)) (replicate (length image) unmarked)
    by true h = refuses-13 image v.unit v.pc.0 c.0 h
    by false h = refuses-8 image c.0 h
holds image n (reads map r) c = (accepts image map c.0 c.1, c.2)

abbrev AllComputed : List Case → Type 0
AllComputed [] = Unit
AllComputed (c ∷ cs) = Computed c.image c.budget c.expected × AllComputed cs

all_hold : (cs : List Case) → AllComputed cs → AllHold cs
all_hold [] t = tt
all_hold (c ∷ cs) t = (holds c.image c.budget c.expected t.0, all_hold cs t.1)

computed : AllComputed cases
unfolding all_below any_below one_of two_of three_of double_of lengths takens lefts byte_at word_at skip_at bits_at data_at count_at name_at length_at limited_at record_at records_at body_at module_at refused_by modules_from parse in_code fits mark_of depth_of promised saves list_of front_of is_list is_mark passed stored fetched leaves permits depth_flow target jumps calls calls_in onward flow_at marked map_fits is_machine row1 row2 row3 loads stores row8 row9 row10 row11 row12 row13 row14 row15 decode_of followed call unit_of back_to returned is_process saved restored written saved_store restored_machine changed switched transferred stack_saved stack_fetched perform_of instruction_of highest taken_line attempt_of is_caught caught trapped step_of run_n run_refusal run_of start_refusal start_store start_machine start_of desk_of gather entered forced member least_test other wrong any_wrong clash_test accept_test set_from set_of whole_test unfit_test broken_test ways ways_at legible named cause_at whole_at
computed = ((refl, refl, refl), ((refl, refl, refl), ((refl, refl, refl), ((refl, refl, refl), ((refl, refl, refl), ((refl, refl, refl), ((refl, refl, refl), ((refl, refl, refl), ((refl, refl, refl), ((refl, refl, refl), ((refl, refl, refl), ((refl, refl, refl), ((refl, refl, refl), ((refl, refl, refl), ((refl, refl, refl), ((refl, refl, refl), ((refl, refl, refl), ((refl, refl, refl), ((refl, refl, refl), ((refl, refl, refl), ((refl, refl, refl), ((refl, refl, refl), ((refl, refl, refl), ((refl, refl, refl), tt))))))))))))))))))))))))

pub marked-cases : AllHold cases
marked-cases = all_hold cases computed
