use Rattle.std.proofs.Common.{◌<◌, length, get_or, rules, arith}
use Rattle.hole_unify.proofs.TableLemmas.{Among-get_or}
use Rattle.hole_unify.proofs.build.built_for.Goals as goal

pub offset_bounds-built-class : goal.offset_bounds-built-class
offset_bounds-built-class c =
    let lt : get_or c.args.classes.now c.args.number 0 < length c.args.classes.now =
    c.requires.classes _ (Among-get_or c.args.classes.now c.args.number 0 c.requires.number) in
    let within : get_or c.args.classes.now c.args.number 0 < length c.args.built.now =
    omega (arith, lt, c.requires.length) in
    search rules

pub bounds-built-class : goal.bounds-built-class
bounds-built-class c =
    let lt : get_or c.args.classes.now c.args.number 0 < length c.args.classes.now =
    c.requires.classes _ (Among-get_or c.args.classes.now c.args.number 0 c.requires.number) in
    omega (arith, lt, c.requires.length)
