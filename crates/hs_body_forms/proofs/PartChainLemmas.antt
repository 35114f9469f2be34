-- The parts of a module's block, as a chain: nothing stands behind a declaration with the places behind it.
use Rattle.std.proofs.Common.{◌≡◌, ℕ, ◌+◌, Bool, true, false, List, [], ◌∷◌, ◌++◌, length, refl, sym, ap, ◌∙◌, arith}
use Rattle.std.proofs.Common.{true≢false}
use Rattle.std.specs.Prelude.{not, max, map, ◌&&◌, ◌||◌, Option}
use Rattle.std.proofs.lemmas.Bool.{and_from, not-true, not_from_false}
use Rattle.hs_forms.specs.Reading.{begins}
use Rattle.hs_forms.specs.Limits.{Within, deepest, all_of}
use Rattle.hs_forms.specs.Productions.{Chain}
use Rattle.hs_forms.specs.Answers.{Rejects}
use Rattle.hs_forms.specs.declared.fault.Fault.{Fault}
use Rattle.hs_forms.proofs.LimitLemmas.{within_less, within_max, and_left, and_right, all_here, all_more, deep_here}
use Rattle.hs_forms.proofs.LimitLemmas.{deep_more, or_left, or_right}
use Rattle.hs_tokens.specs.declared.terminal.Terminal.{Terminal}
use Rattle.hs_tokens.specs.declared.terminal.Terminal.TheVariants as t
use Rattle.hs_trees.specs.Patterns.{Ts}
use Rattle.hs_expression_forms.specs.Trees.{Trees, Took, Failed, behind_token, ended, within}
use Rattle.hs_expression_forms.specs.Expressions.{last_part}
use Rattle.hs_expression_forms.proofs.ListedLemmas.{last_more}
use Rattle.hs_expression_forms.proofs.TreesLemmas.{ended_took, ended_failed, ended_missed}
use Rattle.hs_block_forms.specs.Blocks.{is_semicolon, is_right_brace}
use Rattle.hs_modules.specs.declared.declarations.TopDeclTree.{TopDeclTree}
use Rattle.hs_modules.specs.declared.declarations.TopSlot.{TopSlot}
use Rattle.hs_body_forms.specs.declared.parts.TopPart.{TopPart}
use Rattle.hs_body_forms.specs.declared.parts.TopPart.TheVariants as p
use Rattle.hs_body_forms.specs.Bodies.{parts, part_lists, PartList, part_tokens, is_part, part_depth, part_goes}
use Rattle.hs_body_forms.specs.Bodies.{takes_rest, shut, decl_runs}
use Rattle.hs_declaration_forms.specs.Typings.{fills_place}

semicolon_idle : (k : Terminal) → is_semicolon k ≡ true → fills_place k ≡ false
semicolon_idle t.Semicolon h = refl
semicolon_idle _ h = absurd (true≢false (sym h))

-- a part that leaves the rest doesn't go on with a semicolon
pub part_stops : (x : TopPart) (k : Terminal) → takes_rest x ≡ false → is_semicolon k ≡ true → part_goes x k ≡ false
part_stops p.Empty k h e = semicolon_idle k e
part_stops (p.Import i) k h e = semicolon_idle k e
part_stops (p.Decls d ss) k h e = absurd (true≢false h)

shut_more : (h : TopPart) (xs : List TopPart) (x : TopPart) → shut h xs ≡ true →
    takes_rest (last_part h xs) ≡ false → shut h (xs ++ x ∷ []) ≡ true
shut_more h [] x e l = and_from (not (takes_rest h)) true (not_from_false (takes_rest h) l) refl
shut_more h (z ∷ zs) x e l =
    and_from (not (takes_rest h)) _ (and_left (not (takes_rest h)) _ e)
    (shut_more z zs x (and_right (not (takes_rest h)) _ e) l)

pub shut_first : (h x : TopPart) (more : List TopPart) → shut h (x ∷ more) ≡ true → takes_rest h ≡ false
shut_first h x more e = not-true (takes_rest h) (and_left (not (takes_rest h)) _ e)

pub shut_last : (h : TopPart) (xs : List TopPart) (x : TopPart) (more : List TopPart) → shut h (xs ++ x ∷ more) ≡ true →
    takes_rest (last_part h xs) ≡ false
shut_last h [] x more e = shut_first h x more e
shut_last h (z ∷ zs) x more e = shut_last z zs x more (and_right (not (takes_rest h)) _ e)

pub shut_at : (h : TopPart) (xs : List TopPart) (x y : TopPart) (more : List TopPart) →
    shut h (xs ++ x ∷ y ∷ more) ≡ true → takes_rest x ≡ false
shut_at h [] x y more e = shut_first x y more (and_right (not (takes_rest h)) _ e)
shut_at h (z ∷ zs) x y more e = shut_at z zs x y more (and_right (not (takes_rest h)) _ e)

module _ (limit : Option ℕ) where
  abbrev pub part_item : ℕ → TopPart → Type 0
  part_item n x = (within parts limit).Good x

  abbrev pub PartRoom : TopPart → List TopPart → Type 0
  PartRoom h xs = takes_rest (last_part h xs) ≡ false

  pub part_more : (h : TopPart) (xs : List TopPart) (x : TopPart) → (within part_lists limit).Good (h, xs) →
      PartRoom h xs → part_item (length xs) x → (within part_lists limit).Good (h, xs ++ x ∷ [])
  part_more h xs x good room item =
      let both = and_left (is_part h && all_of (map is_part xs)) _ good.0 in
      let new = deep_more part_depth xs x in (
        and_from _ _ (and_from _ _ (and_left (is_part h) _ both)
            (all_more is_part xs x (and_right (is_part h) _ both) item.0))
            (shut_more h xs x (and_right (is_part h && all_of (map is_part xs)) _ good.0) room),
        within_less limit _ (max (max (part_depth h) (deepest (map part_depth xs))) (part_depth x) + 0) (omega arith)
            (within_max limit _ _ 0 (within_less limit _ _ (omega arith) good.1)
            (within_less limit _ _ (omega arith) item.1)),
      )

  pub part_here : (h : TopPart) (xs : List TopPart) (x : TopPart) (more : List TopPart) →
      (within part_lists limit).Good (h, xs ++ x ∷ more) → part_item (length xs) x
  part_here h xs x more good = (
    all_here is_part xs x more (and_right (is_part h) _
        (and_left (is_part h && all_of (map is_part (xs ++ x ∷ more))) _ good.0)),
    (let here = deep_here part_depth xs x more in within_less limit _ _ (omega arith) good.1),
  )

  pub part_first : (h : TopPart) → (within parts limit).Good h → (within part_lists limit).Good (h, [])
  part_first h good = (
    and_from _ true (and_from (is_part h) true good.0 refl) refl,
    within_less limit _ (part_depth h) (omega arith) good.1,
  )

  abbrev pub part_chain : Chain Terminal PartList TopPart TopPart
  part_chain = record {
    form = within part_lists limit;
    head = within (behind_token t.LeftBrace parts) limit;
    items = λ x. t.Semicolon ∷ part_tokens x;
    item = part_item;
    inner = part_goes;
    starter = is_semicolon;
    make = λ h xs. (h, xs);
    head_depth = part_depth;
    item_depth = part_depth;
    Room = PartRoom;
    laws = record {
      spelled = λ h xs. refl;
      taken = λ l. (l.0, l.1, refl);
      good_head = λ h xs good. (
        and_left (is_part h) _ (and_left (is_part h && all_of (map is_part xs)) _ good.0),
        within_less limit _ _ (omega arith) good.1,
      );
      good_item = part_here;
      starts = λ x. refl;
      ends = λ h xs k e. or_left (is_semicolon k) _ e;
      ends_head = λ h k e. or_right (is_semicolon k) _ e;
      ends_item = λ h xs x k e.
          ap (λ y. part_goes y k) (sym (last_more h xs x)) ∙ or_right (is_semicolon k) _ e;
      apart_head = λ h x more k good e. part_stops h k (shut_first h x more
          (and_right (is_part h && all_of (map is_part (x ∷ more))) _ good.0)) e;
      apart_item = λ h xs x y more k good e. part_stops x k (shut_at h xs x y more
          (and_right (is_part h && all_of (map is_part (xs ++ x ∷ y ∷ more))) _ good.0)) e;
    };
    first = part_first;
    more = part_more;
    full = λ h xs x more good. shut_last h xs x more
        (and_right (is_part h && all_of (map is_part (xs ++ x ∷ more))) _ good.0);
  }

-- the closing brace
brace_run : (d : TopDeclTree) (ss : List TopSlot) → decl_runs.extends (d, ss) t.RightBrace ≡ false
brace_run d [] = refl
brace_run d (x ∷ xs) = refl

brace_part : (x : TopPart) → part_goes x t.RightBrace ≡ false
brace_part p.Empty = refl
brace_part (p.Import i) = refl
brace_part (p.Decls d ss) = brace_run d ss

brace_ends : (l : PartList) → part_lists.extends l t.RightBrace ≡ false
brace_ends l = brace_part (last_part l.0 l.1)

abbrev pub shut_lists : Trees Terminal PartList
shut_lists = ended part_lists t.RightBrace

module _ (limit : Option ℕ) (ts : Ts) where
  pub shut_failed : (e : Fault) → Failed part_lists limit ts e → Failed shut_lists limit ts e
  shut_failed e r = ended_failed part_lists limit t.RightBrace brace_ends ts e r

  pub shut_took : (l : PartList) (here rest : Ts) (m : ℕ) → Took part_lists limit ts l here m →
      here ≡ t.RightBrace ∷ rest → Took shut_lists limit ts l rest m
  shut_took l here rest m acc at = ended_took part_lists limit t.RightBrace brace_ends ts l here rest m acc at

  pub shut_missed : (l : PartList) (here : Ts) (m : ℕ) → Took part_lists limit ts l here m →
      begins is_right_brace here ≡ false → Rejects (within shut_lists limit) ts (length here)
  shut_missed l here m acc missed =
      ended_missed part_lists limit t.RightBrace brace_ends is_right_brace refl ts l here m acc missed
