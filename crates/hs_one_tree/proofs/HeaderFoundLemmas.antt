-- Imports, and the heads of modules and signatures, are found again.
use Rattle.std.proofs.Common.{◌≡◌, ℕ, ◌<◌, Bool, true, false, List, [], ◌∷◌, ◌++◌, length, refl, sym, ap, ◌∙◌}
use Rattle.std.proofs.Common.{true≢false, arith, length-append, append_assoc}
use Rattle.std.specs.Prelude.{map, codes, Option, Some, None}
use Rattle.hs_forms.specs.Reading.{begins}
use Rattle.hs_forms.specs.Answers.{Accepts}
use Rattle.hs_forms.proofs.FormLemmas.{begins_same, begins_append, begins_within, uncons}
use Rattle.hs_forms.proofs.LimitLemmas.{or_left, or_right}
use Rattle.hs_tokens.specs.declared.terminal.Terminal.{Terminal}
use Rattle.hs_tokens.specs.declared.terminal.Terminal.TheVariants as t
use Rattle.hs_tokens.specs.declared.word.Word.TheVariants as w
use Rattle.hs_trees.specs.declared.patterns.VarTree.TheVariants as v
use Rattle.hs_modules.specs.Words.{qvar_tokens}
use Rattle.hs_modules.specs.ModuleTokens.{listed, cname_tokens, subs_tokens, exports_tokens}
use Rattle.hs_modules.specs.ModuleTokens.{import_list_tokens, import_tokens}
use Rattle.hs_modules.specs.ModuleForms.{is_import_list}
use Rattle.hs_modules.specs.declared.names.ConTree.TheVariants as c
use Rattle.hs_modules.specs.declared.names.QVarTree.{QVarTree}
use Rattle.hs_modules.specs.declared.names.QVarTree.TheVariants as q
use Rattle.hs_modules.specs.declared.module.CNameTree.{CNameTree}
use Rattle.hs_modules.specs.declared.module.CNameTree.TheVariants as n
use Rattle.hs_modules.specs.declared.module.SubsTree.{SubsTree}
use Rattle.hs_modules.specs.declared.module.SubsTree.TheVariants as u
use Rattle.hs_modules.specs.declared.module.ExportTree.TheVariants as x
use Rattle.hs_modules.specs.declared.module.ItemTree.TheVariants as i
use Rattle.hs_modules.specs.declared.module.ImportList.{ImportList}
use Rattle.hs_modules.specs.declared.module.ImportList.TheVariants as l
use Rattle.hs_modules.specs.declared.module.ImpDeclTree.{ImpDeclTree}
use Rattle.hs_headers.specs.Lists.{Ts, Element, more_tokens, tail_tokens}
use Rattle.hs_headers.specs.Names.{is_left_paren, is_as_word, starts_list, goes_on}
use Rattle.hs_headers.specs.Elements.{cname_element, export_element, item_element}
use Rattle.hs_headers.specs.Headers.{import_form}
use Rattle.hs_headers.specs.Heads.{module_head_tokens, module_head_form, is_module_head, signature_head_form}
use Rattle.hs_headers.specs.declared.heads.ModuleHead.{ModuleHead}
use Rattle.hs_headers.specs.declared.heads.ModuleHead.TheVariants as h
use Rattle.hs_headers.proofs.ElementLemmas.{listed_is}
use Rattle.hs_one_tree.proofs.DeclFoundLemmas.{one_var}
use Rattle.hs_one_tree.proofs.TypeDeclFoundLemmas.{one_con}

-- two parts of a list, before what goes on neither, are one if their tokens are
abbrev One : {X : Type 0} → Element X → Type 0
One {X} e =
    (a b : X) (s r : Ts) → begins (e.extends a) s ≡ false → begins (e.extends b) r ≡ false →
    e.tokens a ++ s ≡ e.tokens b ++ r → (b ≡ a) × (r ≡ s)

module _ {X : Type 0} (e : Element X) (one : One e) where
  more_quiet : (y : X) (ms : List X) (b : Bool) (after : Ts) →
      begins (e.extends y) (more_tokens e.tokens ms b ++ after) ≡ false
  more_quiet y [] true after = e.comma y
  more_quiet y [] false after = e.close y
  more_quiet y (z ∷ zs) b after = e.comma y

  -- no part begins with a bracket or comma that ends the list
  no_part : (y : X) (k : Terminal) (s r : Ts) → e.starter k ≡ false → k ∷ s ≡ e.tokens y ++ r → ⊥
  no_part y k s r off same =
      true≢false (sym (begins_append e.starter (e.tokens y) r (e.starts y)) ∙ ap (begins e.starter) (sym same) ∙ off)

  -- a part, and what is behind it
  part_split : (y z : X) (xs ys : List X) (b d : Bool) (s r : Ts) →
      (e.tokens y ++ more_tokens e.tokens xs b) ++ s ≡ (e.tokens z ++ more_tokens e.tokens ys d) ++ r →
      (z ≡ y) × (more_tokens e.tokens ys d ++ r ≡ more_tokens e.tokens xs b ++ s)
  part_split y z xs ys b d s r same =
      one y z (more_tokens e.tokens xs b ++ s) (more_tokens e.tokens ys d ++ r) (more_quiet y xs b s)
      (more_quiet z ys d r)
      (sym (append_assoc (e.tokens y) (more_tokens e.tokens xs b) s) ∙ same
      ∙ append_assoc (e.tokens z) (more_tokens e.tokens ys d) r)

  abbrev Same : List X → List X → Bool → Bool → Ts → Ts → Type 0
  Same xs ys b d s r = (ys ≡ xs) × (d ≡ b) × (r ≡ s)

  one_more : (xs ys : List X) (b d : Bool) (s r : Ts) →
      more_tokens e.tokens xs b ++ s ≡ more_tokens e.tokens ys d ++ r → Same xs ys b d s r
  one_more [] [] true true s r same = (refl, refl, sym cc)
  one_more [] [] true false s r same = absurd cc
  one_more [] [] false true s r same = absurd cc
  one_more [] [] false false s r same = (refl, refl, sym cc)
  one_more [] (y ∷ ys) true d s r same =
      absurd (no_part y t.RightParen s (more_tokens e.tokens ys d ++ r) e.no_close
      (uncons t.Comma _ _ same ∙ append_assoc (e.tokens y) (more_tokens e.tokens ys d) r))
  one_more [] (y ∷ ys) false d s r same = absurd cc
  one_more (y ∷ xs) [] b true s r same =
      absurd (no_part y t.RightParen r (more_tokens e.tokens xs b ++ s) e.no_close
      (sym (uncons t.Comma _ _ same) ∙ append_assoc (e.tokens y) (more_tokens e.tokens xs b) s))
  one_more (y ∷ xs) [] b false s r same = absurd cc
  one_more (y ∷ xs) (z ∷ ys) b d s r same =
      let cut = part_split y z xs ys b d s r (uncons t.Comma _ _ same) in
      let more = one_more xs ys b d s r (sym cut.1) in
      ((λ j. cut.0 j ∷ more.0 j), more.1, more.2)

  one_tail : (xs ys : List X) (b d : Bool) (s r : Ts) →
      tail_tokens false e.tokens xs b ++ s ≡ tail_tokens false e.tokens ys d ++ r → Same xs ys b d s r
  one_tail [] [] true true s r same = (refl, refl, sym cc)
  one_tail [] [] true false s r same = absurd cc
  one_tail [] [] false true s r same = absurd cc
  one_tail [] [] false false s r same = (refl, refl, sym cc)
  one_tail [] (y ∷ ys) true d s r same =
      absurd (no_part y t.Comma (t.RightParen ∷ s) (more_tokens e.tokens ys d ++ r) e.no_comma
      (same ∙ append_assoc (e.tokens y) (more_tokens e.tokens ys d) r))
  one_tail [] (y ∷ ys) false d s r same =
      absurd (no_part y t.RightParen s (more_tokens e.tokens ys d ++ r) e.no_close
      (same ∙ append_assoc (e.tokens y) (more_tokens e.tokens ys d) r))
  one_tail (y ∷ xs) [] b true s r same =
      absurd (no_part y t.Comma (t.RightParen ∷ r) (more_tokens e.tokens xs b ++ s) e.no_comma
      (sym same ∙ append_assoc (e.tokens y) (more_tokens e.tokens xs b) s))
  one_tail (y ∷ xs) [] b false s r same =
      absurd (no_part y t.RightParen r (more_tokens e.tokens xs b ++ s) e.no_close
      (sym same ∙ append_assoc (e.tokens y) (more_tokens e.tokens xs b) s))
  one_tail (y ∷ xs) (z ∷ ys) b d s r same =
      let cut = part_split y z xs ys b d s r same in
      let more = one_more xs ys b d s r (sym cut.1) in
      ((λ j. cut.0 j ∷ more.0 j), more.1, more.2)

  -- a list in brackets
  one_list : (xs ys : List X) (b d : Bool) (s r : Ts) →
      listed (map e.tokens xs) b ++ s ≡ listed (map e.tokens ys) d ++ r → Same xs ys b d s r
  one_list xs ys b d s r same =
      one_tail xs ys b d s r (uncons t.LeftParen _ _ (ap (λ k. k ++ s) (sym (listed_is e.tokens xs b)) ∙ same
      ∙ ap (λ k. k ++ r) (listed_is e.tokens ys d)))

-- the names behind a type
one_cname : One cname_element
one_cname (n.Var a) (n.Var b) s r qs qr e = let one = one_var a b s r e in (ap n.Var one.0, one.1)
one_cname (n.Con a) (n.Con b) s r qs qr e = let one = one_con a b s r e in (ap n.Con one.0, one.1)
one_cname (n.Var (v.Id a)) (n.Con (c.Id b)) s r qs qr e = absurd cc
one_cname (n.Var (v.Id a)) (n.Con (c.Sym b)) s r qs qr e = absurd cc
one_cname (n.Var (v.Sym a)) (n.Con (c.Id b)) s r qs qr e = absurd cc
one_cname (n.Var (v.Sym a)) (n.Con (c.Sym b)) s r qs qr e = absurd cc
one_cname (n.Con (c.Id a)) (n.Var (v.Id b)) s r qs qr e = absurd cc
one_cname (n.Con (c.Id a)) (n.Var (v.Sym b)) s r qs qr e = absurd cc
one_cname (n.Con (c.Sym a)) (n.Var (v.Id b)) s r qs qr e = absurd cc
one_cname (n.Con (c.Sym a)) (n.Var (v.Sym b)) s r qs qr e = absurd cc

no_dots : (xs : List CNameTree) (s r : Ts) → t.LeftParen ∷ t.DotDot ∷ s ≡ listed (map cname_tokens xs) false ++ r → ⊥
no_dots xs s r e = by xs (uncons t.LeftParen _ _ (e ∙ ap (λ k. k ++ r) (listed_is cname_tokens xs false)))
  where
    by : (xs : List CNameTree) → t.DotDot ∷ s ≡ tail_tokens false cname_tokens xs false ++ r → ⊥
    by [] e = absurd cc
    by (y ∷ ys) e =
        no_part cname_element one_cname y t.DotDot s (more_tokens cname_tokens ys false ++ r) refl
        (e ∙ append_assoc (cname_tokens y) (more_tokens cname_tokens ys false) r)

one_subs : (a b : SubsTree) (s r : Ts) → subs_tokens a ++ s ≡ subs_tokens b ++ r → (b ≡ a) × (r ≡ s)
one_subs u.All u.All s r e = (refl, sym cc)
one_subs u.All (u.Only ys) s r e = absurd (no_dots ys _ r e)
one_subs (u.Only xs) u.All s r e = absurd (no_dots xs _ s (sym e))
one_subs (u.Only xs) (u.Only ys) s r e =
    let one = one_list cname_element one_cname xs ys false false s r e in (ap u.Only one.0, one.2)

subs_start : (a : SubsTree) (s r : Ts) → r ≡ subs_tokens a ++ s → begins is_left_paren r ≡ true
subs_start u.All s r e = ap (begins is_left_paren) e
subs_start (u.Only xs) s r e = ap (begins is_left_paren) e

-- what stands behind a type's name
behind_con : (a b : List ℕ) (s r : Ts) → t.Con a ∷ s ≡ t.Con b ∷ r → (b ≡ a) × (r ≡ s)
behind_con a b s r e = (cc, cc)

-- items of imports
one_item : One item_element
one_item (i.Var a) (i.Var b) s r qs qr e = let one = one_var a b s r e in (ap i.Var one.0, one.1)
one_item (i.Type a) (i.Type b) s r qs qr e = let one = behind_con a b s r e in (ap i.Type one.0, one.1)
one_item (i.TypeWith a xs) (i.TypeWith b ys) s r qs qr e =
    let cut = behind_con a b (subs_tokens xs ++ s) (subs_tokens ys ++ r) e in
    let one = one_subs xs ys s r (sym cut.1) in ((λ j. i.TypeWith (cut.0 j) (one.0 j)), one.1)
one_item (i.Type a) (i.TypeWith b ys) s r qs qr e =
    let cut = behind_con a b s (subs_tokens ys ++ r) e in
    absurd (true≢false (sym (subs_start ys r s (sym cut.1)) ∙ qs))
one_item (i.TypeWith a xs) (i.Type b) s r qs qr e =
    let cut = behind_con a b (subs_tokens xs ++ s) r e in absurd (true≢false (sym (subs_start xs s r cut.1) ∙ qr))
one_item (i.Var (v.Id a)) (i.Type b) s r qs qr e = absurd cc
one_item (i.Var (v.Sym a)) (i.Type b) s r qs qr e = absurd cc
one_item (i.Var (v.Id a)) (i.TypeWith b ys) s r qs qr e = absurd cc
one_item (i.Var (v.Sym a)) (i.TypeWith b ys) s r qs qr e = absurd cc
one_item (i.Type a) (i.Var (v.Id b)) s r qs qr e = absurd cc
one_item (i.Type a) (i.Var (v.Sym b)) s r qs qr e = absurd cc
one_item (i.TypeWith a xs) (i.Var (v.Id b)) s r qs qr e = absurd cc
one_item (i.TypeWith a xs) (i.Var (v.Sym b)) s r qs qr e = absurd cc

-- exports
one_qvar : (a b : QVarTree) (s r : Ts) → qvar_tokens a ++ s ≡ qvar_tokens b ++ r → (b ≡ a) × (r ≡ s)
one_qvar (q.Id a) (q.Id b) s r e = let same : b ≡ a = cc in (ap q.Id same, cc)
one_qvar (q.Id a) (q.Sym b) s r e = absurd cc
one_qvar (q.Id a) (q.QualifiedId b) s r e = absurd cc
one_qvar (q.Id a) (q.QualifiedSym b) s r e = absurd cc
one_qvar (q.Sym a) (q.Id b) s r e = absurd cc
one_qvar (q.Sym a) (q.Sym b) s r e = let same : b ≡ a = cc in (ap q.Sym same, cc)
one_qvar (q.Sym a) (q.QualifiedId b) s r e = absurd cc
one_qvar (q.Sym a) (q.QualifiedSym b) s r e = absurd cc
one_qvar (q.QualifiedId a) (q.Id b) s r e = absurd cc
one_qvar (q.QualifiedId a) (q.Sym b) s r e = absurd cc
one_qvar (q.QualifiedId a) (q.QualifiedId b) s r e = let same : b ≡ a = cc in (ap q.QualifiedId same, cc)
one_qvar (q.QualifiedId a) (q.QualifiedSym b) s r e = absurd cc
one_qvar (q.QualifiedSym a) (q.Id b) s r e = absurd cc
one_qvar (q.QualifiedSym a) (q.Sym b) s r e = absurd cc
one_qvar (q.QualifiedSym a) (q.QualifiedId b) s r e = absurd cc
one_qvar (q.QualifiedSym a) (q.QualifiedSym b) s r e = let same : b ≡ a = cc in (ap q.QualifiedSym same, cc)

-- a variable begins with no type's name and no `module`
other_export : Terminal → Bool
other_export (t.Con a) = true
other_export (t.Word w.Module) = true
other_export _ = false

qvar_other : (a : QVarTree) (s : Ts) → begins other_export (qvar_tokens a ++ s) ≡ false
unfolding other_export
qvar_other (q.Id a) s = refl
qvar_other (q.Sym a) s = refl
qvar_other (q.QualifiedId a) s = refl
qvar_other (q.QualifiedSym a) s = refl

apart_export : (a : QVarTree) (s r : Ts) → begins other_export r ≡ true → qvar_tokens a ++ s ≡ r → ⊥
apart_export a s r on e = true≢false (sym on ∙ ap (begins other_export) (sym e) ∙ qvar_other a s)

one_export : One export_element
unfolding other_export
one_export (x.Var a) (x.Var b) s r qs qr e = let one = one_qvar a b s r e in (ap x.Var one.0, one.1)
one_export (x.Type a) (x.Type b) s r qs qr e = let one = behind_con a b s r e in (ap x.Type one.0, one.1)
one_export (x.TypeWith a xs) (x.TypeWith b ys) s r qs qr e =
    let cut = behind_con a b (subs_tokens xs ++ s) (subs_tokens ys ++ r) e in
    let one = one_subs xs ys s r (sym cut.1) in ((λ j. x.TypeWith (cut.0 j) (one.0 j)), one.1)
one_export (x.Module a) (x.Module b) s r qs qr e = let same : b ≡ a = cc in (ap x.Module same, cc)
one_export (x.Type a) (x.TypeWith b ys) s r qs qr e =
    let cut = behind_con a b s (subs_tokens ys ++ r) e in
    absurd (true≢false (sym (subs_start ys r s (sym cut.1)) ∙ qs))
one_export (x.TypeWith a xs) (x.Type b) s r qs qr e =
    let cut = behind_con a b (subs_tokens xs ++ s) r e in absurd (true≢false (sym (subs_start xs s r cut.1) ∙ qr))
one_export (x.Type a) (x.Module b) s r qs qr e = absurd cc
one_export (x.TypeWith a xs) (x.Module b) s r qs qr e = absurd cc
one_export (x.Module a) (x.Type b) s r qs qr e = absurd cc
one_export (x.Module a) (x.TypeWith b ys) s r qs qr e = absurd cc
one_export (x.Var a) (x.Type b) s r qs qr e = absurd (apart_export a s _ refl e)
one_export (x.Var a) (x.TypeWith b ys) s r qs qr e = absurd (apart_export a s _ refl e)
one_export (x.Var a) (x.Module b) s r qs qr e = absurd (apart_export a s _ refl e)
one_export (x.Type a) (x.Var b) s r qs qr e = absurd (apart_export b r _ refl (sym e))
one_export (x.TypeWith a xs) (x.Var b) s r qs qr e = absurd (apart_export b r _ refl (sym e))
one_export (x.Module a) (x.Var b) s r qs qr e = absurd (apart_export b r _ refl (sym e))

-- the lists of imports
quiet_list : (s : Ts) → begins goes_on s ≡ false → begins starts_list s ≡ false
quiet_list s h = begins_within goes_on starts_list s (λ k e. or_left (starts_list k) (is_as_word k) e) h

one_import_list : (a b : ImportList) (s r : Ts) → begins goes_on s ≡ false → begins goes_on r ≡ false →
    import_list_tokens a ++ s ≡ import_list_tokens b ++ r → (b ≡ a) × (r ≡ s)
one_import_list l.Everything l.Everything s r qs qr e = (refl, sym e)
one_import_list l.Everything (l.Only ys d) s r qs qr e =
    absurd (true≢false (sym (ap (begins starts_list) e) ∙ quiet_list s qs))
one_import_list l.Everything (l.Hiding ys d) s r qs qr e =
    absurd (true≢false (sym (ap (begins starts_list) e) ∙ quiet_list s qs))
one_import_list (l.Only xs b) l.Everything s r qs qr e =
    absurd (true≢false (sym (ap (begins starts_list) (sym e)) ∙ quiet_list r qr))
one_import_list (l.Hiding xs b) l.Everything s r qs qr e =
    absurd (true≢false (sym (ap (begins starts_list) (sym e)) ∙ quiet_list r qr))
one_import_list (l.Only xs b) (l.Only ys d) s r qs qr e =
    let one = one_list item_element one_item xs ys b d s r e in ((λ j. l.Only (one.0 j) (one.1 j)), one.2)
one_import_list (l.Only xs b) (l.Hiding ys d) s r qs qr e = absurd cc
one_import_list (l.Hiding xs b) (l.Only ys d) s r qs qr e = absurd cc
one_import_list (l.Hiding xs b) (l.Hiding ys d) s r qs qr e =
    let one = one_list item_element one_item xs ys b d s r (uncons (t.Var (codes "hiding")) _ _ e) in
    ((λ j. l.Hiding (one.0 j) (one.1 j)), one.2)

no_as : (a : ImportList) (s : Ts) → begins goes_on s ≡ false → begins is_as_word (import_list_tokens a ++ s) ≡ false
no_as l.Everything s q = begins_within goes_on is_as_word s (λ k e. or_right (starts_list k) (is_as_word k) e) q
no_as (l.Only xs b) s q = refl
no_as (l.Hiding xs b) s q = refl

-- imports, from their parts
abbrev make : Bool → List ℕ → Option (List ℕ) → ImportList → ImpDeclTree
make b m a y = record { qualified = b; modid = m; alias = a; list = y }

abbrev Made : Bool → Bool → List ℕ → List ℕ → Option (List ℕ) → Option (List ℕ) → ImportList → ImportList → Ts → Ts →
    Type 0
Made b d m k a f y z s r = (make d k f z ≡ make b m a y) × (r ≡ s)

one_made : (b d : Bool) (m k : List ℕ) (a f : Option (List ℕ)) (y z : ImportList) (s r : Ts) →
    begins goes_on s ≡ false → begins goes_on r ≡ false →
    import_tokens (make b m a y) ++ s ≡ import_tokens (make d k f z) ++ r → Made b d m k a f y z s r
one_made false true m k None None y z s r qs qr e = absurd cc
one_made false true m k None (Some f) y z s r qs qr e = absurd cc
one_made false true m k (Some a) None y z s r qs qr e = absurd cc
one_made false true m k (Some a) (Some f) y z s r qs qr e = absurd cc
one_made true false m k None None y z s r qs qr e = absurd cc
one_made true false m k None (Some f) y z s r qs qr e = absurd cc
one_made true false m k (Some a) None y z s r qs qr e = absurd cc
one_made true false m k (Some a) (Some f) y z s r qs qr e = absurd cc
one_made false false m k None None y z s r qs qr e =
    let name : k ≡ m = cc in
    let tails : import_list_tokens y ++ s ≡ import_list_tokens z ++ r = cc in
    let one = one_import_list y z s r qs qr tails in ((λ j. make false (name j) None (one.0 j)), one.1)
one_made true true m k None None y z s r qs qr e =
    let name : k ≡ m = cc in
    let tails : import_list_tokens y ++ s ≡ import_list_tokens z ++ r = cc in
    let one = one_import_list y z s r qs qr tails in ((λ j. make true (name j) None (one.0 j)), one.1)
one_made false false m k (Some a) (Some f) y z s r qs qr e =
    let name : k ≡ m = cc in
    let other : f ≡ a = cc in
    let tails : import_list_tokens y ++ s ≡ import_list_tokens z ++ r = cc in
    let one = one_import_list y z s r qs qr tails in ((λ j. make false (name j) (Some (other j)) (one.0 j)), one.1)
one_made true true m k (Some a) (Some f) y z s r qs qr e =
    let name : k ≡ m = cc in
    let other : f ≡ a = cc in
    let tails : import_list_tokens y ++ s ≡ import_list_tokens z ++ r = cc in
    let one = one_import_list y z s r qs qr tails in ((λ j. make true (name j) (Some (other j)) (one.0 j)), one.1)
one_made false false m k None (Some f) y z s r qs qr e =
    let tails : import_list_tokens y ++ s ≡ t.Var (codes "as") ∷ t.Con f ∷ (import_list_tokens z ++ r) = cc in
    absurd (true≢false (sym (ap (begins is_as_word) tails) ∙ no_as y s qs))
one_made true true m k None (Some f) y z s r qs qr e =
    let tails : import_list_tokens y ++ s ≡ t.Var (codes "as") ∷ t.Con f ∷ (import_list_tokens z ++ r) = cc in
    absurd (true≢false (sym (ap (begins is_as_word) tails) ∙ no_as y s qs))
one_made false false m k (Some a) None y z s r qs qr e =
    let tails : import_list_tokens z ++ r ≡ t.Var (codes "as") ∷ t.Con a ∷ (import_list_tokens y ++ s) = cc in
    absurd (true≢false (sym (ap (begins is_as_word) tails) ∙ no_as z r qr))
one_made true true m k (Some a) None y z s r qs qr e =
    let tails : import_list_tokens z ++ r ≡ t.Var (codes "as") ∷ t.Con a ∷ (import_list_tokens y ++ s) = cc in
    absurd (true≢false (sym (ap (begins is_as_word) tails) ∙ no_as z r qr))

-- each import is found
pub import_at : (a : ImpDeclTree) → is_import_list a.list ≡ true → (rest : Ts) → begins goes_on rest ≡ false →
    Accepts import_form (λ y. 0) (import_tokens a ++ rest) a rest 0
import_at a good rest quiet =
    let long = length-append (import_tokens a) rest in
    record {
      spelled = refl;
      reads = record {
        good = good;
        only = λ s other after same it still e.
            one_made a.qualified other.qualified a.modid other.modid a.alias other.alias a.list other.list s after
            (begins_same goes_on rest s same ∙ quiet) still e;
      };
      measured_is = refl;
      room = omega arith;
    }

-- the heads of modules
one_head : (a b : ModuleHead) (s r : Ts) → module_head_tokens a ++ s ≡ module_head_tokens b ++ r → (b ≡ a) × (r ≡ s)
one_head (h.Named m) (h.Named k) s r e = let same : k ≡ m = cc in (ap h.Named same, cc)
one_head (h.Named m) (h.Exporting k y) s r e = absurd cc
one_head (h.Exporting m y) (h.Named k) s r e = absurd cc
one_head (h.Exporting m y) (h.Exporting k z) s r e =
    let name : k ≡ m = cc in
    let tails : (exports_tokens y ++ t.Word w.Where ∷ []) ++ s ≡ (exports_tokens z ++ t.Word w.Where ∷ []) ++ r = cc in
    let one = one_list export_element one_export y.exports z.exports y.trailing z.trailing (t.Word w.Where ∷ s)
    (t.Word w.Where ∷ r) (sym (append_assoc (exports_tokens y) (t.Word w.Where ∷ []) s) ∙ tails
    ∙ append_assoc (exports_tokens z) (t.Word w.Where ∷ []) r) in
    ((λ j. h.Exporting (name j) (record { exports = one.0 j; trailing = one.1 j })), uncons (t.Word w.Where) _ _ one.2)

head_some : (a : ModuleHead) → 0 < length (module_head_tokens a)
head_some (h.Named m) = omega arith
head_some (h.Exporting m y) = omega arith

pub head_at : (a : ModuleHead) → is_module_head a ≡ true → (rest : Ts) →
    Accepts module_head_form (λ y. 0) (module_head_tokens a ++ rest) a rest 0
head_at a good rest =
    let long = length-append (module_head_tokens a) rest in
    let some = head_some a in
    record {
      spelled = refl;
      reads = record { good = good; only = λ s other after same it still e. one_head a other s after e };
      measured_is = refl;
      room = omega arith;
    }

-- and of signatures
one_name : (m k : List ℕ) (s r : Ts) → signature_head_form.tokens m ++ s ≡ signature_head_form.tokens k ++ r →
    (k ≡ m) × (r ≡ s)
one_name m k s r e = (cc, cc)

pub signature_at : (m : List ℕ) (rest : Ts) →
    Accepts signature_head_form (λ y. 0) (signature_head_form.tokens m ++ rest) m rest 0
signature_at m rest = record {
  spelled = refl;
  reads = record { good = tt; only = λ s other after same it still e. one_name m other s after e };
  measured_is = refl;
  room = omega arith;
}
