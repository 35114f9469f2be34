-- What unification does to equations.
use Rattle.std.proofs.Common.{refl, List}
use Rattle.std.specs.Prelude.{length}
use Rattle.hs_core.specs.Types.{KindTerm}
use Rattle.type_unify.specs.Types.{Plain, Bound}
use Rattle.type_unify.specs.Unified.{IsUnified, NotSolvable}
use Rattle.kind_check.specs.Forms.{is_below, any_name}
use Rattle.type_equations.specs.States.{read_back, Equates, Refuses}
use Rattle.type_equations.proofs.CodedLemmas.{Every-form, equals_from, values_from, type_of-equals}

pub equates : (old new : List Bound) (ks : List KindTerm) (t u : Plain) → IsUnified old new t u
    → Equates (record { bindings = old; kinds = ks }) (record { bindings = new; kinds = ks }) t u
equates old new ks t u h G k r p q = record {
  ready = record {
    triangular = h.triangular;
    below = h.closed (is_below (length ks)) any_name r.below (Every-form G ks t k p) (Every-form G ks u k q);
    decides = λ kinds rich s o.
        let a = (h.solutions s).0 o in
        let m = r.decides kinds rich s a.0 in
        record {
          solves = (h.solutions _).1 (
            m.solves,
            equals_from G kinds ks (read_back G kinds rich ks s).types m.kinded t u k p q
                (type_of-equals G (λ j. (rich j).0) ks s t u k p q a.1),
          );
          kinded = m.kinded;
        };
  };
  same = refl;
  meets = λ g. (
    λ m. let a = (h.solutions _).0 m.solves in
        (record { solves = a.0; kinded = m.kinded }, values_from G g.kinds ks g.types t u k p q a.1),
    λ m. record {
      solves = (h.solutions _).1 (m.0.solves, equals_from G g.kinds ks g.types m.0.kinded t u k p q m.1);
      kinded = m.0.kinded;
    },
  );
}

pub refuses : (old : List Bound) (ks : List KindTerm) (t u : Plain) → NotSolvable old t u
    → Refuses (record { bindings = old; kinds = ks }) t u
refuses old ks t u h G k p q g m e = h _ m.solves (equals_from G g.kinds ks g.types m.kinded t u k p q e)
