-- From the answers of the reader and of load.
use Rattle.loader.proofs.Begin.{read_told}
use Rattle.explain.proofs.Places.{read-as, unread-as, loads-as, accepts-as, broken-so, place-so, long-so, whole-so, explained-as, fault-so}
use native.Mathlib.Omega.{arith}
use Rattle.explain.proofs.reason.Goals as goal

pub returns-in_err-program : goal.returns-in_err-program
returns-in_err-program c = rw c.from_residual.ensures (tt, λ u z l. absurd (unread-as _ _ c.in_err-program.ensures.value c.read_image.ensures z))

pub load_program-requires : goal.load_program-requires
load_program-requires c = read_told _ _ (read-as _ _ _ c.in_ok-program.ensures.value c.read_image.ensures)

pub returns-in_err-refusal : goal.returns-in_err-refusal
returns-in_err-refusal c =
    let e = read-as c.args.image.now c.read_image.result c.in_ok-program.program c.in_ok-program.ensures.value c.read_image.ensures in
    let L = accepts-as c.args.image.now c.args.map.now c.load_program.new.map c.in_ok-program.program c.load_program.result c.in_err-refusal.ensures.value c.load_program.ensures in
    rw c.from_residual-in_err-refusal.ensures (tt, λ u z l. whole-so _ _ _ _ e _ L (λ n. omega (arith, n)) l)

pub invariant_of-read : goal.invariant_of-read
invariant_of-read c = record { told = read_told _ _ (read-as _ _ _ c.in_ok-program.ensures.value c.read_image.ensures) }

pub invariant_of-read-in-NoDepths : goal.invariant_of-read-in-NoDepths
invariant_of-read-in-NoDepths c = record { told = read_told _ _ (read-as _ _ _ c.in_ok-program.ensures.value c.read_image.ensures) }

pub fault_at-requires : goal.fault_at-requires
fault_at-requires c =
    let e = read-as c.args.image.now c.read_image.result c.in_ok-program.program c.in_ok-program.ensures.value c.read_image.ensures in
    let L = loads-as c.args.image.now c.args.map.now c.load_program.new.map c.in_ok-program.program c.load_program.result c.in_ok-refusal.refusal _ c.in_ok-refusal.ensures.value c.in-NotWhole.is c.load_program.ensures in
    place-so _ _ (read_told _ _ e) _ _ (broken-so _ _ _ _ _ _ L)

pub first_misfit-requires : goal.first_misfit-requires
first_misfit-requires c =
    let e = read-as c.args.image.now c.read_image.result c.in_ok-program.program c.in_ok-program.ensures.value c.read_image.ensures in
    let L = loads-as c.args.image.now c.args.map.now c.load_program.new.map c.in_ok-program.program c.load_program.result c.in_ok-refusal.refusal _ c.in_ok-refusal.ensures.value c.in-NoDepths.is c.load_program.ensures in
    omega (arith, long-so _ _ _ _ L, c.load_program.auto.map)

pub returns-in-NotWhole : goal.returns-in-NotWhole
returns-in-NotWhole c =
    let e = read-as c.args.image.now c.read_image.result c.in_ok-program.program c.in_ok-program.ensures.value c.read_image.ensures in
    let L = loads-as c.args.image.now c.args.map.now c.load_program.new.map c.in_ok-program.program c.load_program.result c.in_ok-refusal.refusal _ c.in_ok-refusal.ensures.value c.in-NotWhole.is c.load_program.ensures in
    let F = fault-so _ _ _ _ (broken-so _ _ _ _ _ _ L) c.fault_at.result c.fault_at.ensures in
    (explained-as _ _ e _ F.0, λ u z l. absurd (F.1 u))

pub returns-in-NoDepths : goal.returns-in-NoDepths
returns-in-NoDepths c =
    let e = read-as c.args.image.now c.read_image.result c.in_ok-program.program c.in_ok-program.ensures.value c.read_image.ensures in
    let L = loads-as c.args.image.now c.args.map.now c.load_program.new.map c.in_ok-program.program c.load_program.result c.in_ok-refusal.refusal _ c.in_ok-refusal.ensures.value c.in-NoDepths.is c.load_program.ensures in
    (explained-as _ _ e _ c.first_misfit.ensures, λ u z l. whole-so _ _ _ _ e _ L (λ n. omega (arith, n)) l)
