-- The entity of each form.
use Rattle.std.proofs.Common.{◌≡◌, ℕ, List, sym, subst}
use Rattle.std.specs.Prelude.{Option, Bool, Result}
use Rattle.bp_base.specs.declared.ty.OrigName.{OrigName}
use Rattle.bp_base.specs.declared.ty.Kind.{Kind}
use Rattle.bp_base.specs.declared.ty.Ty.{Ty}
use Rattle.bp_base.specs.declared.ty.Scheme.{Scheme}
use Rattle.bp_base.specs.declared.entity.Fixity.{Fixity}
use Rattle.bp_base.specs.declared.entity.Con.{Con as Constructor}
use Rattle.bp_base.specs.declared.entity.Entity.{Entity}
use Rattle.bp_base.specs.declared.entity.Entity.TheVariants.{DataType, Synonym, Value}
use Rattle.hs_core.specs.Expansion.{Synonyms}
use Rattle.kind_module.specs.declared.error.KindsError.{KindsError}
use Rattle.kind_module.specs.Faults.{Finds}
use Rattle.kind_module.specs.Tests.{Kinds}
use Rattle.kind_module.specs.Expanded.{data_gives, synonym_gives, value_gives, entity_gives}

module _ (most : Option ℕ) (K : Kinds) (S : Synonyms) (e : Entity) (r : Result Entity KindsError) where
  pub of_data : (n : OrigName) (k : Kind) (p : ℕ) (w : Bool) (cs one : List Constructor) → e ≡ DataType n k p w cs
      → one ≡ cs → Finds (data_gives most K S n k p w one) r → Finds (entity_gives most K S e) r
  of_data n k p w cs one is q h = subst (λ z. Finds (entity_gives most K S z) r) (sym is)
      (subst (λ z. Finds (data_gives most K S n k p w z) r) q h)

  pub of_synonym : (n : OrigName) (k : Kind) (p : ℕ) (t : Ty) → e ≡ Synonym n k p t
      → Finds (synonym_gives most K S n k p t) r → Finds (entity_gives most K S e) r
  of_synonym n k p t is h = subst (λ z. Finds (entity_gives most K S z) r) (sym is) h

  pub of_value : (n : OrigName) (c : Scheme) (f : Fixity) → e ≡ Value n c f → Finds (value_gives most K S n c.body f) r
      → Finds (entity_gives most K S e) r
  of_value n c f is h = subst (λ z. Finds (entity_gives most K S z) r) (sym is) h
