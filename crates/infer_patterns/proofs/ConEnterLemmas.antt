-- What the head of a constructor pattern does, and the pattern put together from its parts.
use Rattle.std.proofs.Common.{◌≡◌, sym, ap, subst, ◌∙◌, ℕ, List, ◌++◌}
use Rattle.std.proofs.lemmas.List.{length-replicate}
use Rattle.std.specs.Prelude.{Some, None, slice_get, length, replicate, ◌≢◌}
use Rattle.bp_base.specs.Lists.{Among}
use Rattle.bp_base.specs.declared.ty.OrigName.{OrigName}
use Rattle.hs_core.specs.declared.tree.Pat.{Pat}
use Rattle.hs_core.specs.declared.tree.Pat.TheVariants.{PCon}
use Rattle.type_terms.specs.Terms.{var}
use Rattle.hs_core.specs.Types.{star, functions}
use Rattle.hs_core.specs.Globals.{Globals, type_in, HasConstructor}
use Rattle.kind_check.proofs.ScopeLemmas.{count-length}
use Rattle.type_equations.specs.Coded.{IsForm}
use Rattle.type_equations.specs.States.{State, Equates, Refuses, NotEqual}
use Rattle.type_equations.specs.declared.equations.Binder.{Binder}
use Rattle.type_equations.specs.Demands.{Imposes, HasNone, with_unknowns}
use Rattle.type_equations.specs.Syntax.{KnowsSyntax, plain_functions, unknowns, AreStars}
use Rattle.type_equations.proofs.DemandLemmas.{ready-with, slice_get-front, form-front}
use Rattle.type_equations.proofs.SyntaxLemmas.{form-functions, form-unknowns}
use Rattle.type_equations.proofs.UnknownLemmas.{new_stars, have-length}
use Rattle.infer_patterns.specs.Names.{Tells, IsUnknownName, HasShape, kinds_of_declared, instance}
use Rattle.infer_patterns.specs.Patterns.{PatternInferred, PatternRefused, PatternsInferred, PatternsRefused, con_state}
use Rattle.infer_patterns.specs.Patterns.{con_parts, ConEntered, ConRefused, binds}
use Rattle.infer_patterns.specs.declared.names.Declared.{Declared}
use Rattle.infer_patterns.proofs.PatternLemmas.{bind_all-each, each-stars}
use Rattle.infer_patterns.proofs.ConLemmas.{instance-form, shape-fields, con_imposes, con_not_equal, con_parts_none}

-- both types of the equation have kind `*`
own_form : (G : Globals) (old : State) (d : Declared) (m : ℕ) → Tells G d
    → IsForm G ((old.kinds ++ kinds_of_declared d) ++ replicate m star)
    (instance (kinds_of_declared d) (length old.kinds) d.ty) star
own_form G old d m T = form-front G (old.kinds ++ kinds_of_declared d) (replicate m star) _ star
    (instance-form G old.kinds (kinds_of_declared d) d.ty star T.least.fit T.noted (λ i o. (T.variables i).0 o))

wanted_form : (G : Globals) → KnowsSyntax G → (old : State) (d : Declared) (v m : ℕ)
    → slice_get old.kinds v ≡ Some star
    → IsForm G ((old.kinds ++ kinds_of_declared d) ++ replicate m star)
    (plain_functions (unknowns (con_parts old d m)) (var v)) star
wanted_form G K old d v m s = form-functions G K ((old.kinds ++ kinds_of_declared d) ++ replicate m star)
    (unknowns (con_parts old d m)) (var v)
    (form-unknowns G K ((old.kinds ++ kinds_of_declared d) ++ replicate m star) (con_parts old d m)
    (new_stars (old.kinds ++ kinds_of_declared d) m))
    (slice_get-front (old.kinds ++ kinds_of_declared d) (replicate m star) v star
    (slice_get-front old.kinds (kinds_of_declared d) v star s))

pub con_entered : (names : List Declared) (old middle new : State) (n : OrigName) (v m : ℕ) (is : List ℕ) (d : Declared)
    → Among d names → d.name ≡ n → d.fields ≡ Some m → is ≡ con_parts old d m → middle ≡ con_state old d m
    → Equates middle new (instance (kinds_of_declared d) (length old.kinds) d.ty)
    (plain_functions (unknowns (con_parts old d m)) (var v))
    → ConEntered names old new n v m is
con_entered names old middle new n v m is d a nm f p e h G K r s = (
  d,
  record {
    tells = K.each d a;
    name = nm;
    fields = f;
    parts = p;
    equated = subst (λ z. Equates z new (instance (kinds_of_declared d) (length old.kinds) d.ty)
        (plain_functions (unknowns (con_parts old d m)) (var v))) e h G star
        (ready-with G (with_unknowns old (kinds_of_declared d)) (replicate m star)
        (ready-with G old (kinds_of_declared d) r))
        (own_form G old d m (K.each d a)) (wanted_form G K.syntax old d v m s);
  },
)

pub con_refused : (names : List Declared) (old middle : State) (n : OrigName) (v m : ℕ) (d : Declared)
    → Among d names → d.name ≡ n → d.fields ≡ Some m → middle ≡ con_state old d m
    → Refuses middle (instance (kinds_of_declared d) (length old.kinds) d.ty)
    (plain_functions (unknowns (con_parts old d m)) (var v))
    → ConRefused names old n v m
con_refused names old middle n v m d a nm f e h ps l G K r s =
    subst (λ z. HasNone G (binds G (PCon z ps) v) old) nm
    (con_not_equal G old d (K.each d a) ps (f ∙ ap Some (sym l)) v s r
    (subst (λ k. NotEqual G (con_state old d k) (instance (kinds_of_declared d) (length old.kinds) d.ty)
    (plain_functions (unknowns (con_parts old d k)) (var v))) (sym l)
    (subst (λ z. Refuses z (instance (kinds_of_declared d) (length old.kinds) d.ty)
    (plain_functions (unknowns (con_parts old d m)) (var v))) e h G star
    (own_form G old d m (K.each d a)) (wanted_form G K.syntax old d v m s))))

-- a name that is not known
pub con_unknown : (names : List Declared) (old : State) (n : OrigName) (v m : ℕ) → IsUnknownName names n
    → ConRefused names old n v m
con_unknown names old n v m h ps l G K r s g xs p t =
    let d = K.all n (functions t.1.fields t.1.result) (ap type_in t.2) in h d.0 d.1 d.2

-- a name of another shape
pub con_shape : (names : List Declared) (old : State) (n : OrigName) (v m : ℕ) (d : Declared) → Among d names
    → d.name ≡ n → d.fields ≡ None → ConRefused names old n v m
con_shape names old n v m d a nm f ps l G K r s g xs p t =
    subst (λ o. HasShape G d.name o) f (K.each d a).shape t.1
    (subst (λ z. HasConstructor G z t.1) (sym nm) t.2)

pub con_fields : (names : List Declared) (old : State) (n : OrigName) (v m k : ℕ) (d : Declared) → Among d names
    → d.name ≡ n → d.fields ≡ Some k → k ≢ m → ConRefused names old n v m
con_fields names old n v m k d a nm f ne ps l G K r s g xs p t =
    let row = (bind_all-each G g.kinds ps t.3 xs).0 t.5 in
    ne (sym (shape-fields G d.name d.fields k t.1 (K.each d a).shape f
    (subst (λ z. HasConstructor G z t.1) (sym nm) t.2)) ∙ sym t.4.many ∙ count-length t.3
    ∙ have-length G g t.3 (replicate (length ps) star) (each-stars G g ps t.3 xs row)
    ∙ length-replicate (length ps) star ∙ l)

-- ---- patterns

pub con_inferred : (names : List Declared) (before after : List Binder) (old middle new : State) (n : OrigName)
    (ps : List Pat) (is : List ℕ) (v : ℕ) → ConEntered names old middle n v (length ps) is
    → PatternsInferred names before after middle new ps is
    → PatternInferred names before after old new (PCon n ps) v
con_inferred names before after old middle new n ps is v h rows G K r s =
    let e = h G K r s in
    let d = e.0 in
    let q = subst (λ z. PatternsInferred names before after middle new ps z) e.1.parts rows G K e.1.equated.ready
    (subst (λ z. AreStars z (con_parts old d (length ps))) (sym e.1.equated.same)
    (new_stars (old.kinds ++ kinds_of_declared d) (length ps))) in
    record {
      binders = q.binders;
      pushed = q.pushed;
      imposes = subst (λ z. Imposes G (binds G (PCon z ps) v) (binds G (PCon z ps) v) q.binders old new) e.1.name
          (con_imposes G old d e.1.tells ps e.1.fields v s middle new q.binders r e.1.equated q.imposes);
    }

pub con_parts_refused : (names : List Declared) (old middle : State) (n : OrigName) (ps : List Pat) (is : List ℕ)
    (v : ℕ) → ConEntered names old middle n v (length ps) is → PatternsRefused names middle ps is
    → PatternRefused names old (PCon n ps) v
con_parts_refused names old middle n ps is v h rows G K r s =
    let e = h G K r s in
    let d = e.0 in
    subst (λ z. HasNone G (binds G (PCon z ps) v) old) e.1.name
    (con_parts_none G old d e.1.tells ps e.1.fields v s middle r e.1.equated
    (subst (λ z. PatternsRefused names middle ps z) e.1.parts rows G K e.1.equated.ready
    (subst (λ z. AreStars z (con_parts old d (length ps))) (sym e.1.equated.same)
    (new_stars (old.kinds ++ kinds_of_declared d) (length ps)))))
