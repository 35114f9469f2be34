-- Blocks of modules, and modules with a head and without.
use Rattle.std.proofs.Common.{◌≡◌, ℕ, Bool, true, false, List, [], ◌∷◌, ◌++◌, length, refl, sym, ap, ◌∙◌, arith, subst}
use Rattle.std.proofs.Common.{true≢false, append_assoc}
use Rattle.std.specs.Prelude.{max, map, not, Option, ◌&&◌}
use Rattle.std.proofs.lemmas.Bool.{and_from}
use Rattle.hs_forms.specs.Reading.{begins}
use Rattle.hs_forms.specs.Answers.{Accepts, Rejects, Fails}
use Rattle.hs_forms.specs.Limits.{all_of, deepest}
use Rattle.hs_forms.specs.declared.fault.Fault.{Fault}
use Rattle.hs_forms.proofs.LimitLemmas.{and_left, and_right, within_zero}
use Rattle.hs_tokens.specs.declared.terminal.Terminal.{Terminal}
use Rattle.hs_tokens.specs.declared.terminal.Terminal.TheVariants as t
use Rattle.hs_tokens.specs.declared.word.Word.TheVariants as w
use Rattle.hs_trees.specs.Patterns.{Ts}
use Rattle.hs_modules.specs.Extents.{depth_of}
use Rattle.hs_modules.specs.Modules.{depth_of_module, extent_of_export, extent_of_exports}
use Rattle.hs_modules.specs.ModuleTokens.{module_tokens, exports_tokens, top_block_tokens}
use Rattle.hs_modules.specs.ModuleForms.{is_module, module_form, is_export}
use Rattle.hs_modules.specs.declared.declarations.TopBlock.{TopBlock}
use Rattle.hs_modules.specs.declared.declarations.TopSlot.TheVariants as v
use Rattle.hs_modules.specs.declared.module.ExportTree.{ExportTree}
use Rattle.hs_modules.specs.declared.module.ExportTree.TheVariants as x
use Rattle.hs_modules.specs.declared.module.SubsTree.TheVariants as u
use Rattle.hs_modules.specs.declared.module.Module.{Module}
use Rattle.hs_modules.specs.declared.module.Module.TheVariants as m
use Rattle.hs_headers.specs.Heads.{module_head_form, module_head_tokens, is_module_head}
use Rattle.hs_headers.specs.declared.heads.ModuleHead.{ModuleHead}
use Rattle.hs_headers.specs.declared.heads.ModuleHead.TheVariants as h
use Rattle.hs_headers.proofs.TurnLemmas.{stuck}
use Rattle.hs_expression_forms.specs.Trees.{Trees, Took, Failed, Follows, row, within, behind_token}
use Rattle.hs_expression_forms.proofs.TreesLemmas.{row_took, row_first, row_second, Stays, stays_first}
use Rattle.hs_block_forms.specs.Blocks.{is_left_brace}
use Rattle.hs_declaration_forms.proofs.FlatLemmas.{Flat, flat_took, flat_failed}
use Rattle.hs_declaration_forms.proofs.MadeLemmas.{begins_none, stays_off}
use Rattle.hs_declaration_forms.proofs.MergeLemmas.{Joins, joined_took, joined_failed}
use Rattle.hs_body_forms.specs.declared.parts.TopPart.TheVariants as p
use Rattle.hs_body_forms.specs.Bodies.{top_blocks, PartList, block_of, parts}
use Rattle.hs_body_forms.proofs.PartChainLemmas.{shut_lists}
use Rattle.hs_body_forms.proofs.FlattenLemmas.{block_joins}

abbrev any : Ts → Bool
any ts = true

any_stays : (ts : Ts) → Stays any ts
any_stays ts before bad s split same = refl

-- a block of places, of what was read as parts
module _ (limit : Option ℕ) (ts : Ts) where
  pub block_took : (l : PartList) (rest : Ts) (d : ℕ) → Took shut_lists limit ts l rest d →
      Took top_blocks limit ts (block_of l) rest d
  block_took l rest d acc = joined_took top_blocks shut_lists block_of any block_joins limit ts l rest d acc

  pub block_failed : (e : Fault) → Failed shut_lists limit ts e → Failed top_blocks limit ts e
  block_failed e r = joined_failed top_blocks shut_lists block_of any block_joins limit ts e (any_stays ts) r

  pub no_block : begins is_left_brace ts ≡ false →
      Rejects (within (behind_token t.LeftBrace parts) limit) ts (length ts)
  no_block off =
      stuck (within (behind_token t.LeftBrace parts) limit) is_left_brace ts [] ts (t.LeftBrace ∷ []) p.Empty
      (refl, within_zero limit) refl (λ x s after good quiet e. ap (begins is_left_brace) e) refl off

-- heads
heads : Trees Terminal ModuleHead
heads = record {
  tokens = module_head_tokens;
  formed = is_module_head;
  deep = λ x. 0;
  extends = λ x k. false;
}

head_flat : Flat module_head_form heads
unfolding heads
head_flat = record {
  tokens = λ x. refl;
  formed = λ x g. g;
  good = λ x e. e;
  deep = λ x. refl;
  extends = λ x k e. refl;
}

block_follows : Follows heads top_blocks is_left_brace
unfolding heads
block_follows = record {
  starts = λ b. refl;
  apart = λ x k h. refl;
  least = record { first = v.Empty; rest = [] };
  least_formed = refl;
  least_deep = refl;
}

-- exports have no depth
export_deep : (y : ExportTree) → (extent_of_export y).depth ≡ 0
export_deep (x.Var n) = refl
export_deep (x.Type n) = refl
export_deep (x.TypeWith n u.All) = refl
export_deep (x.TypeWith n (u.Only names)) = refl
export_deep (x.Module n) = refl

exports_deep : (ys : List ExportTree) → deepest (map depth_of (map extent_of_export ys)) ≡ 0
exports_deep [] = refl
exports_deep (y ∷ ys) = omega (arith, export_deep y, exports_deep ys)

modules : Trees Terminal Module
modules = record {
  tokens = module_tokens;
  formed = is_module;
  deep = depth_of_module;
  extends = λ x k. false;
}

-- with a head
abbrev pub headed_module : ModuleHead → TopBlock → Module
headed_module (h.Named n) b = m.Named n b
headed_module (h.Exporting n e) b = m.Exporting n e b

abbrev make : ModuleHead × TopBlock → Module
make y = headed_module y.0 y.1

head_joins : Joins modules (row heads top_blocks) make (begins_none is_left_brace)
unfolding heads modules
head_joins = record {
  tokens = λ y. tokens y.0 y.1;
  formed = λ y g. formed y.0 y.1 g;
  deep = λ y. deep y.0 y.1;
  extends = λ y k e. refl;
  starts = λ y after g. starts y.0 y.1 after;
  only = λ y after g q e. only y after g e;
}
  where
    tokens : (y : ModuleHead) (b : TopBlock) → module_tokens (headed_module y b) ≡ module_head_tokens y ++ top_block_tokens b
    tokens (h.Named n) b = refl
    tokens (h.Exporting n e) b =
        ap (λ l. t.Word w.Module ∷ t.Con n ∷ l) (sym (append_assoc (exports_tokens e) (t.Word w.Where ∷ [])
        (top_block_tokens b)))

    formed : (y : ModuleHead) (b : TopBlock) → is_module_head y && top_blocks.formed b ≡ true →
        is_module (headed_module y b) ≡ true
    formed (h.Named n) b g = g
    formed (h.Exporting n e) b g = g

    deep : (y : ModuleHead) (b : TopBlock) → depth_of_module (headed_module y b) ≡ max 0 (top_blocks.deep b)
    deep (h.Named n) b = omega arith
    deep (h.Exporting n e) b = omega (arith, exports_deep e.exports)

    starts : (y : ModuleHead) (b : TopBlock) (after : Ts) →
        begins_none is_left_brace ((module_head_tokens y ++ top_block_tokens b) ++ after) ≡ true
    starts (h.Named n) b after = refl
    starts (h.Exporting n e) b after = refl

    only : (y : Module) (after : Ts) → is_module y ≡ true →
        begins_none is_left_brace (module_tokens y ++ after) ≡ true →
        (z : ModuleHead × TopBlock) × (y ≡ make z) × ((row heads top_blocks).formed z ≡ true)
    only (m.Headless b) after g e = absurd (true≢false (sym e))
    only (m.Named n b) after g e = ((h.Named n, b), refl, g)
    only (m.Exporting n x b) after g e = ((h.Exporting n x, b), refl, g)
    only (m.Signature n b) after g e = absurd (true≢false (sym g))

-- without one
abbrev bare : TopBlock → Module
bare b = m.Headless b

bare_joins : Joins modules top_blocks bare (begins is_left_brace)
unfolding modules
bare_joins = record {
  tokens = λ b. refl;
  formed = λ b g. g;
  deep = λ b. refl;
  extends = λ b k e. refl;
  starts = λ b after g. refl;
  only = λ y after g q e. only y after g e;
}
  where
    only : (y : Module) (after : Ts) → is_module y ≡ true → begins is_left_brace (module_tokens y ++ after) ≡ true →
        (b : TopBlock) × (y ≡ bare b) × (top_blocks.formed b ≡ true)
    only (m.Headless b) after g e = (b, refl, g)
    only (m.Named n b) after g e = absurd (true≢false (sym e))
    only (m.Exporting n x b) after g e = absurd (true≢false (sym e))
    only (m.Signature n b) after g e = absurd (true≢false (sym g))

module _ (limit : Option ℕ) (ts : Ts) where
  pub bare_took : (b : TopBlock) (rest : Ts) (n : ℕ) → Took top_blocks limit ts b rest n →
      Accepts (module_form limit) depth_of_module ts (m.Headless b) rest n
  unfolding modules
  bare_took b rest n acc =
      joined_took modules top_blocks bare (begins is_left_brace) bare_joins limit ts b rest n acc

  pub bare_failed : begins is_left_brace ts ≡ true → (e : Fault) → Failed top_blocks limit ts e →
      Fails (module_form limit) ts e
  unfolding modules
  bare_failed on e r =
      joined_failed modules top_blocks bare (begins is_left_brace) bare_joins limit ts e
      (stays_first is_left_brace ts on) r

  module _ (off : begins is_left_brace ts ≡ false) where
    pub head_failed : (e : Fault) → Fails module_head_form ts e → Fails (module_form limit) ts e
    unfolding modules
    head_failed e r =
        joined_failed modules (row heads top_blocks) make (begins_none is_left_brace) head_joins limit ts e
        (stays_off is_left_brace ts off)
        (row_first heads top_blocks is_left_brace block_follows limit ts e
        (flat_failed module_head_form heads head_flat limit ts e r))

    module _ (y : ModuleHead) (here : Ts) (d : ℕ) (acc : Accepts module_head_form (λ x. 0) ts y here d) where
      pub head_block_failed : (e : Fault) → Failed top_blocks limit here e → Fails (module_form limit) ts e
      unfolding modules
      head_block_failed e r =
          joined_failed modules (row heads top_blocks) make (begins_none is_left_brace) head_joins limit ts e
          (stays_off is_left_brace ts off)
          (row_second heads top_blocks is_left_brace block_follows limit ts y here d e
          (flat_took module_head_form heads head_flat limit ts y here d acc) r)

      pub headed_took : (b : TopBlock) (rest : Ts) (n : ℕ) → Took top_blocks limit here b rest n →
          Accepts (module_form limit) depth_of_module ts (headed_module y b) rest n
      unfolding modules
      headed_took b rest n q =
          let same : max d n ≡ n = omega (arith, acc.measured_is) in
          subst (Accepts (module_form limit) depth_of_module ts (headed_module y b) rest) same
          (joined_took modules (row heads top_blocks) make (begins_none is_left_brace) head_joins limit ts (y, b) rest
          (max d n) (row_took heads top_blocks is_left_brace block_follows limit ts y here d b rest n
          (flat_took module_head_form heads head_flat limit ts y here d acc) q))
