-- Operators: no two have one spelling, and none goes on.
use Rattle.std.proofs.Common.{◌≡◌, ℕ, ◌<◌, ◌++◌, length, refl, ap, arith}
use Rattle.std.proofs.Common.{length-append}
use Rattle.std.specs.Prelude.{Option, None, Some}
use Rattle.hs_forms.specs.Limits.{Within}
use Rattle.hs_forms.specs.Reading.{Reads}
use Rattle.hs_trees.specs.Patterns.{Ts}
use Rattle.hs_trees.specs.declared.patterns.QConOpTree.TheVariants as o
use Rattle.hs_modules.specs.Words.{qop_tokens}
use Rattle.hs_modules.specs.declared.names.QOpTree.{QOpTree}
use Rattle.hs_modules.specs.declared.names.QOpTree.TheVariants as q
use Rattle.hs_expression_forms.specs.Trees.{within, Took}
use Rattle.hs_expression_forms.specs.Expressions.{qops}

pub qop_unique : (op other : QOpTree) (s after : Ts) → qop_tokens op ++ s ≡ qop_tokens other ++ after →
    (other ≡ op) × (after ≡ s)
qop_unique (q.Sym n) (q.Sym m) s after e = let same : m ≡ n = cc in (ap (λ k. q.Sym k) same, cc)
qop_unique (q.Sym n) (q.Quoted m) s after e = absurd cc
qop_unique (q.Sym n) (q.QualifiedSym m) s after e = absurd cc
qop_unique (q.Sym n) (q.QualifiedQuoted m) s after e = absurd cc
qop_unique (q.Sym n) (q.Con (o.Sym m)) s after e = absurd cc
qop_unique (q.Sym n) (q.Con o.Colon) s after e = absurd cc
qop_unique (q.Sym n) (q.Con (o.Quoted m)) s after e = absurd cc
qop_unique (q.Quoted n) (q.Sym m) s after e = absurd cc
qop_unique (q.Quoted n) (q.Quoted m) s after e = let same : m ≡ n = cc in (ap (λ k. q.Quoted k) same, cc)
qop_unique (q.Quoted n) (q.QualifiedSym m) s after e = absurd cc
qop_unique (q.Quoted n) (q.QualifiedQuoted m) s after e = absurd cc
qop_unique (q.Quoted n) (q.Con (o.Sym m)) s after e = absurd cc
qop_unique (q.Quoted n) (q.Con o.Colon) s after e = absurd cc
qop_unique (q.Quoted n) (q.Con (o.Quoted m)) s after e = absurd cc
qop_unique (q.QualifiedSym n) (q.Sym m) s after e = absurd cc
qop_unique (q.QualifiedSym n) (q.Quoted m) s after e = absurd cc
qop_unique (q.QualifiedSym n) (q.QualifiedSym m) s after e = let same : m ≡ n = cc in (
  ap
      (λ k. q.QualifiedSym k) same,
  cc,
)
qop_unique (q.QualifiedSym n) (q.QualifiedQuoted m) s after e = absurd cc
qop_unique (q.QualifiedSym n) (q.Con (o.Sym m)) s after e = absurd cc
qop_unique (q.QualifiedSym n) (q.Con o.Colon) s after e = absurd cc
qop_unique (q.QualifiedSym n) (q.Con (o.Quoted m)) s after e = absurd cc
qop_unique (q.QualifiedQuoted n) (q.Sym m) s after e = absurd cc
qop_unique (q.QualifiedQuoted n) (q.Quoted m) s after e = absurd cc
qop_unique (q.QualifiedQuoted n) (q.QualifiedSym m) s after e = absurd cc
qop_unique (q.QualifiedQuoted n) (q.QualifiedQuoted m) s after e = let same : m ≡ n = cc in (
  ap
      (λ k. q.QualifiedQuoted k) same,
  cc,
)
qop_unique (q.QualifiedQuoted n) (q.Con (o.Sym m)) s after e = absurd cc
qop_unique (q.QualifiedQuoted n) (q.Con o.Colon) s after e = absurd cc
qop_unique (q.QualifiedQuoted n) (q.Con (o.Quoted m)) s after e = absurd cc
qop_unique (q.Con (o.Sym n)) (q.Sym m) s after e = absurd cc
qop_unique (q.Con (o.Sym n)) (q.Quoted m) s after e = absurd cc
qop_unique (q.Con (o.Sym n)) (q.QualifiedSym m) s after e = absurd cc
qop_unique (q.Con (o.Sym n)) (q.QualifiedQuoted m) s after e = absurd cc
qop_unique (q.Con (o.Sym n)) (q.Con (o.Sym m)) s after e = let same : m ≡ n = cc in (ap (λ k. q.Con (o.Sym k)) same, cc)
qop_unique (q.Con (o.Sym n)) (q.Con o.Colon) s after e = absurd cc
qop_unique (q.Con (o.Sym n)) (q.Con (o.Quoted m)) s after e = absurd cc
qop_unique (q.Con o.Colon) (q.Sym m) s after e = absurd cc
qop_unique (q.Con o.Colon) (q.Quoted m) s after e = absurd cc
qop_unique (q.Con o.Colon) (q.QualifiedSym m) s after e = absurd cc
qop_unique (q.Con o.Colon) (q.QualifiedQuoted m) s after e = absurd cc
qop_unique (q.Con o.Colon) (q.Con (o.Sym m)) s after e = absurd cc
qop_unique (q.Con o.Colon) (q.Con o.Colon) s after e = (refl, cc)
qop_unique (q.Con o.Colon) (q.Con (o.Quoted m)) s after e = absurd cc
qop_unique (q.Con (o.Quoted n)) (q.Sym m) s after e = absurd cc
qop_unique (q.Con (o.Quoted n)) (q.Quoted m) s after e = absurd cc
qop_unique (q.Con (o.Quoted n)) (q.QualifiedSym m) s after e = absurd cc
qop_unique (q.Con (o.Quoted n)) (q.QualifiedQuoted m) s after e = absurd cc
qop_unique (q.Con (o.Quoted n)) (q.Con (o.Sym m)) s after e = absurd cc
qop_unique (q.Con (o.Quoted n)) (q.Con o.Colon) s after e = absurd cc
qop_unique (q.Con (o.Quoted n)) (q.Con (o.Quoted m)) s after e = let same : m ≡ n = cc in (
  ap (λ k. q.Con
      (o.Quoted k)) same,
  cc,
)

pub qop_reads : (limit : Option ℕ) (op : QOpTree) (rest : Ts) → Reads (within qops limit) op rest
qop_reads limit op rest = record {
  good = (refl, lowest limit);
  only = λ s other after same good quiet e. qop_unique op other s after e;
}
  where
    lowest : (l : Option ℕ) → Within l 0
    lowest None = tt
    lowest (Some n) = omega arith

pub qop_long : (op : QOpTree) → 0 < length (qop_tokens op)
qop_long (q.Sym n) = omega arith
qop_long (q.Quoted n) = omega arith
qop_long (q.QualifiedSym n) = omega arith
qop_long (q.QualifiedQuoted n) = omega arith
qop_long (q.Con (o.Sym n)) = omega arith
qop_long (q.Con o.Colon) = omega arith
qop_long (q.Con (o.Quoted n)) = omega arith

pub qop_took : (limit : Option ℕ) (ts : Ts) (op : QOpTree) (rest : Ts) → ts ≡ qop_tokens op ++ rest →
    Took qops limit ts op rest 0
qop_took limit ts op rest at = record {
  spelled = at;
  reads = qop_reads limit op rest;
  measured_is = refl;
  room = omega (arith, ap length at, length-append (qop_tokens op) rest, qop_long op);
}
