use Rattle.std.proofs.Common.{◌≡◌, take}
use Rattle.hs_core.proofs.equal.+exp.Given as goal

abbrev pub invariant-same_exps-loop-i : goal.invariant-same_exps-loop-i
invariant-same_exps-loop-i l = take l.i l.a ≡ take l.i l.b

abbrev pub invariant-same_decls-loop-i : goal.invariant-same_decls-loop-i
invariant-same_decls-loop-i l = take l.i l.a ≡ take l.i l.b

abbrev pub invariant-same_choices-loop-i : goal.invariant-same_choices-loop-i
invariant-same_choices-loop-i l = take l.i l.a ≡ take l.i l.b

abbrev pub invariant-same_guards-loop-i : goal.invariant-same_guards-loop-i
invariant-same_guards-loop-i l = take l.i l.a ≡ take l.i l.b

abbrev pub invariant-same_alts-loop-i : goal.invariant-same_alts-loop-i
invariant-same_alts-loop-i l = take l.i l.a ≡ take l.i l.b
