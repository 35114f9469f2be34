use Rattle.std.proofs.Common.{◌≡◌, length, ap, ◌∙◌, rules, arith}
use Rattle.std.proofs.lemmas.Grind.{common_steps}
use Rattle.hole_unify.specs.Table.{nodes_of}
use Rattle.hole_unify.specs.Close.{IsSettled}
use Rattle.hole_unify.proofs.NumberingLemmas.{upto-length}
use Rattle.hole_unify.proofs.SettlingLemmas.{written, read-length, read-below, read-ends, read-cycle, found-cycle}
use Rattle.hole_unify.proofs.SettlingLemmas.{found-none}
use Rattle.hole_unify.proofs.solve.settle.Goals as goal

pub list_edges-requires : goal.list_edges-requires
list_edges-requires c =
    let same : length c.close.new.classes ≡ length c.in_ok-classes.classes.items = c.close.ensures.length
    ∙ ap length c.as_mut_slice.ensures.value in
    let len : c.in_ok-classes.classes.len ≡ length c.in_ok-classes.classes.items =
    first_of (search rules, cc, omega arith, grind (arith, common_steps)) in
    let kept = written c.in_ok-classes.classes.len c.close.new.classes c.in_ok-classes.classes.items same len in
    let long : length c.close.new.classes ≡ length c.list_pairs.new.table = same ∙ ap length c.in_ok-classes.ensures
    ∙ upto-length c.len.result ∙ c.len.ensures.len in
    let settled : IsSettled c.args.equations.now (nodes_of c.list_pairs.new.table c.close.new.classes) = search rules in
    read-length c.args.equations.now c.list_pairs.new.table c.close.new.classes c.as_slice.result.now
    (record { long = long; settled = settled; same = c.as_slice.ensures.value ∙ kept })

pub find_cycle-requires-clause-length : goal.find_cycle-requires-clause-length
find_cycle-requires-clause-length c =
    let same : length c.close.new.classes ≡ length c.in_ok-classes.classes.items = c.close.ensures.length
    ∙ ap length c.as_mut_slice.ensures.value in
    let len : c.in_ok-classes.classes.len ≡ length c.in_ok-classes.classes.items =
    first_of (search rules, cc, omega arith, grind (arith, common_steps)) in
    let kept = written c.in_ok-classes.classes.len c.close.new.classes c.in_ok-classes.classes.items same len in
    let long : length c.close.new.classes ≡ length c.list_pairs.new.table = same ∙ ap length c.in_ok-classes.ensures
    ∙ upto-length c.len.result ∙ c.len.ensures.len in
    let settled : IsSettled c.args.equations.now (nodes_of c.list_pairs.new.table c.close.new.classes) = search rules in
    read-length c.args.equations.now c.list_pairs.new.table c.close.new.classes c.as_slice-3.result.now
    (record { long = long; settled = settled; same = c.as_slice-3.ensures.value ∙ kept })

pub find_cycle-requires-clause-classes : goal.find_cycle-requires-clause-classes
find_cycle-requires-clause-classes c =
    let same : length c.close.new.classes ≡ length c.in_ok-classes.classes.items = c.close.ensures.length
    ∙ ap length c.as_mut_slice.ensures.value in
    let len : c.in_ok-classes.classes.len ≡ length c.in_ok-classes.classes.items =
    first_of (search rules, cc, omega arith, grind (arith, common_steps)) in
    let kept = written c.in_ok-classes.classes.len c.close.new.classes c.in_ok-classes.classes.items same len in
    let long : length c.close.new.classes ≡ length c.list_pairs.new.table = same ∙ ap length c.in_ok-classes.ensures
    ∙ upto-length c.len.result ∙ c.len.ensures.len in
    let settled : IsSettled c.args.equations.now (nodes_of c.list_pairs.new.table c.close.new.classes) = search rules in
    read-below c.args.equations.now c.list_pairs.new.table c.close.new.classes c.as_slice-3.result.now
    (record { long = long; settled = settled; same = c.as_slice-3.ensures.value ∙ kept })

pub find_cycle-requires-clause-ends : goal.find_cycle-requires-clause-ends
find_cycle-requires-clause-ends c =
    let same : length c.close.new.classes ≡ length c.in_ok-classes.classes.items = c.close.ensures.length
    ∙ ap length c.as_mut_slice.ensures.value in
    let len : c.in_ok-classes.classes.len ≡ length c.in_ok-classes.classes.items =
    first_of (search rules, cc, omega arith, grind (arith, common_steps)) in
    let kept = written c.in_ok-classes.classes.len c.close.new.classes c.in_ok-classes.classes.items same len in
    let long : length c.close.new.classes ≡ length c.list_pairs.new.table = same ∙ ap length c.in_ok-classes.ensures
    ∙ upto-length c.len.result ∙ c.len.ensures.len in
    let settled : IsSettled c.args.equations.now (nodes_of c.list_pairs.new.table c.close.new.classes) = search rules in
    read-ends c.args.equations.now c.list_pairs.new.table c.close.new.classes c.as_slice.result.now
    c.as_slice-3.result.now c.in_ok-edges.edges.items c.as_slice-4.result.now
    (record { long = long; settled = settled; same = c.as_slice-3.ensures.value ∙ kept }) (c.as_slice.ensures.value
    ∙ kept) c.in_ok-edges.ensures c.as_slice-4.ensures.value

pub returns-in-Some-2 : goal.returns-in-Some-2
returns-in-Some-2 c =
    let same : length c.close.new.classes ≡ length c.in_ok-classes.classes.items = c.close.ensures.length
    ∙ ap length c.as_mut_slice.ensures.value in
    let len : c.in_ok-classes.classes.len ≡ length c.in_ok-classes.classes.items =
    first_of (search rules, cc, omega arith, grind (arith, common_steps)) in
    let kept = written c.in_ok-classes.classes.len c.close.new.classes c.in_ok-classes.classes.items same len in
    let long : length c.close.new.classes ≡ length c.list_pairs.new.table = same ∙ ap length c.in_ok-classes.ensures
    ∙ upto-length c.len.result ∙ c.len.ensures.len in
    let settled : IsSettled c.args.equations.now (nodes_of c.list_pairs.new.table c.close.new.classes) = search rules in
    found-cycle c.args.equations.now c.list_pairs.new.table c.close.new.classes c.as_slice-3.result.now
    c.in_ok-hole.field-0 c.in-Some-2.hole (record {
      long = long;
      settled = settled;
      same = c.as_slice-3.ensures.value ∙ kept;
    })
    (read-cycle c.args.equations.now c.list_pairs.new.table c.close.new.classes c.as_slice.result.now
    c.as_slice-3.result.now c.in_ok-edges.edges.items c.as_slice-4.result.now c.in_ok-hole.field-0
    (record { long = long; settled = settled; same = c.as_slice-3.ensures.value ∙ kept }) (c.as_slice.ensures.value
    ∙ kept) c.in_ok-edges.ensures c.as_slice-4.ensures.value c.in_ok-hole.ensures) c.in-Some-2.is

pub returns-in-None : goal.returns-in-None
returns-in-None c =
    let same : length c.close.new.classes ≡ length c.in_ok-classes.classes.items = c.close.ensures.length
    ∙ ap length c.as_mut_slice.ensures.value in
    let len : c.in_ok-classes.classes.len ≡ length c.in_ok-classes.classes.items =
    first_of (search rules, cc, omega arith, grind (arith, common_steps)) in
    let kept = written c.in_ok-classes.classes.len c.close.new.classes c.in_ok-classes.classes.items same len in
    let long : length c.close.new.classes ≡ length c.list_pairs.new.table = same ∙ ap length c.in_ok-classes.ensures
    ∙ upto-length c.len.result ∙ c.len.ensures.len in
    let settled : IsSettled c.args.equations.now (nodes_of c.list_pairs.new.table c.close.new.classes) = search rules in
    found-none c.args.equations.now c.list_pairs.new.table c.close.new.classes _ c.in_ok-hole.field-0
    (record { long = long; settled = settled; same = kept })
    (read-cycle c.args.equations.now c.list_pairs.new.table c.close.new.classes c.as_slice.result.now
    c.as_slice-3.result.now c.in_ok-edges.edges.items c.as_slice-4.result.now c.in_ok-hole.field-0
    (record { long = long; settled = settled; same = c.as_slice-3.ensures.value ∙ kept }) (c.as_slice.ensures.value
    ∙ kept) c.in_ok-edges.ensures c.as_slice-4.ensures.value c.in_ok-hole.ensures) c.in-None.is
