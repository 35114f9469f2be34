-- Answers that meet a check, one after another.
use Rattle.std.proofs.Common.{◌≡◌, refl, sym, ap, subst, inl, inr, List, [], ◌∷◌, ◌++◌, append_assoc, append-nil}
use Rattle.std.specs.Prelude.{Result, Ok, Err}
use Rattle.std.specs.List.{flat_map}
use Rattle.bp_checks.specs.Check.{Check, ◌>>=◌, PassesAll, FailsIn}
use Rattle.import_resolve.specs.declared.error.ScopeError.{ScopeError}
use Rattle.import_resolve.specs.declared.error.ScopeError.TheVariants as err
use Rattle.import_resolve.specs.Scopes.{ScopeFault, Answers, next}
use Rattle.export_resolve.specs.Found.{all_found, together}
use Rattle.export_resolve.specs.Whole.{Judges}

-- an answer that passes, or a fault that is one
abbrev pub Meets : {B : Type 0} → Check B ScopeFault → Result B ScopeFault → Type 0
Meets check (Ok b) = check.passes b
Meets check (Err f) = check.fails f

pub met_by : {B C : Type 0} (s : Check B ScopeFault) (t : B → Check C ScopeFault) (b : B) (r : Result C ScopeFault)
    → s.passes b → Meets (t b) r → Meets (s >>= t) r
met_by s t b (Ok c) p m = (b, p, m)
met_by s t b (Err f) p m = inr (b, p, m)

-- one check after another
pub met_then : {B C : Type 0} (s : Check B ScopeFault) (t : B → Check C ScopeFault) (r : Result B ScopeFault)
    (f : B → Result C ScopeFault) → Meets s r → ((b : B) → Meets (t b) (f b)) → Meets (s >>= t) (next r f)
met_then s t (Ok b) f m h = met_by s t b (f b) m (h b)
met_then s t (Err e) f m h = inl m

-- what answers a meeting function judges by the check
pub judged : {B : Type 0} (check : Check B ScopeFault) (meant : Result B ScopeFault) (r : Result B ScopeError)
    → Meets check meant → Answers meant r → Judges check r
judged check meant (Ok b) m a = subst (λ x. Meets check x) a m
judged check meant (Err (err.NoModule n)) m a = subst (λ x. Meets check x) a m
judged check meant (Err (err.AmbiguousModule n)) m a = subst (λ x. Meets check x) a m
judged check meant (Err (err.NotInScope n)) m a = subst (λ x. Meets check x) a m
judged check meant (Err (err.AmbiguousName n)) m a = subst (λ x. Meets check x) a m
judged check meant (Err (err.ExportClash n)) m a = subst (λ x. Meets check x) a m
judged check meant (Err err.NoMemory) m a = tt

-- ---- lists

module _ {A B : Type 0} (s : A → Check B ScopeFault) (f : A → Result (List B) ScopeFault) where
  -- one answer alone
  abbrev pub Single : A → Result (List B) ScopeFault → Type 0
  Single a (Ok bs) = (b : B) × (s a).passes b × (bs ≡ b ∷ [])
  Single a (Err e) = (s a).fails e

  abbrev pub AfterDone : List B → List A → Result (List B) ScopeFault → Type 0
  AfterDone done as' (Ok bs) = PassesAll (λ _ a. s a) done as' (done ++ bs)
  AfterDone done as' (Err e) = FailsIn (λ _ a. s a) done as' e

  one_more : (done : List B) (a : A) (rest : List A) (b : B) (r : Result (List B) ScopeFault) → (s a).passes b
      → AfterDone (done ++ b ∷ []) rest r → AfterDone done (a ∷ rest) (together (b ∷ []) r)
  one_more done a rest b (Ok more) p m =
      (b, p, subst (λ x. PassesAll (λ _ z. s z) (done ++ b ∷ []) rest x) (append_assoc done (b ∷ []) more) m)
  one_more done a rest b (Err e) p m = inr (b, p, m)

  one_step : (done : List B) (a : A) (rest : List A) (x r : Result (List B) ScopeFault) → Single a x
      → ((b : B) → AfterDone (done ++ b ∷ []) rest r) → AfterDone done (a ∷ rest) (next x (λ bs. together bs r))
  one_step done a rest (Ok bs) r p h =
      subst (λ (y : List B). AfterDone done (a ∷ rest) (together y r)) (sym p.2) (one_more done a rest p.0 r p.1 (h p.0))
  one_step done a rest (Err e) r p h = inl p

  -- each of a list, where each has one answer
  pub singles : ((a : A) → Single a (f a)) → (done : List B) (as' : List A) → AfterDone done as' (all_found f as')
  singles h done [] = append-nil done
  singles h done (a ∷ rest) = one_step done a rest (f a) (all_found f rest) (h a) (λ b. singles h (done ++ b ∷ []) rest)

module _ {A B : Type 0} (s : A → Check (List B) ScopeFault) (f : A → Result (List B) ScopeFault) where
  -- what each of a list has, put together
  abbrev pub Flat : List (List B) → List A → Result (List B) ScopeFault → Type 0
  Flat done as' (Ok bs) = (parts : List (List B)) × PassesAll (λ _ a. s a) done as' (done ++ parts) × (flat_map (λ us. us) parts ≡ bs)
  Flat done as' (Err e) = FailsIn (λ _ a. s a) done as' e

  part_more : (done : List (List B)) (a : A) (rest : List A) (b : List B) (r : Result (List B) ScopeFault)
      → (s a).passes b → Flat (done ++ b ∷ []) rest r → Flat done (a ∷ rest) (together b r)
  part_more done a rest b (Ok more) p m = (
    b ∷ m.0,
    (b, p, subst (λ x. PassesAll (λ _ z. s z) (done ++ b ∷ []) rest x) (append_assoc done (b ∷ []) m.0) m.1),
    ap (λ x. b ++ x) m.2,
  )
  part_more done a rest b (Err e) p m = inr (b, p, m)

  part_step : (done : List (List B)) (a : A) (rest : List A) (x r : Result (List B) ScopeFault) → Meets (s a) x
      → ((b : List B) → Flat (done ++ b ∷ []) rest r) → Flat done (a ∷ rest) (next x (λ bs. together bs r))
  part_step done a rest (Ok b) r p h = part_more done a rest b r p (h b)
  part_step done a rest (Err e) r p h = inl p

  pub flats : ((a : A) → Meets (s a) (f a)) → (done : List (List B)) (as' : List A) → Flat done as' (all_found f as')
  flats h done [] = ([], append-nil done, refl)
  flats h done (a ∷ rest) = part_step done a rest (f a) (all_found f rest) (h a) (λ b. flats h (done ++ b ∷ []) rest)
