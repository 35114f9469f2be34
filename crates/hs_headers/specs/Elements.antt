-- What may be a part of a list: names behind a type, exports, items of an import.
use Rattle.std.proofs.Common.{◌≡◌, true, false, [], refl}
use Rattle.hs_forms.specs.Reading.{begins}
use Rattle.hs_trees.specs.declared.patterns.VarTree.TheVariants as v
use Rattle.hs_modules.specs.ModuleTokens.{cname_tokens, export_tokens, item_tokens}
use Rattle.hs_modules.specs.ModuleForms.{is_cname, is_export, is_item}
use Rattle.hs_modules.specs.declared.names.QVarTree.TheVariants as q
use Rattle.hs_modules.specs.declared.names.ConTree.TheVariants as c
use Rattle.hs_modules.specs.declared.module.CNameTree.{CNameTree}
use Rattle.hs_modules.specs.declared.module.CNameTree.TheVariants as n
use Rattle.hs_modules.specs.declared.module.ExportTree.{ExportTree}
use Rattle.hs_modules.specs.declared.module.ExportTree.TheVariants as x
use Rattle.hs_modules.specs.declared.module.ItemTree.{ItemTree}
use Rattle.hs_modules.specs.declared.module.ItemTree.TheVariants as i
use Rattle.hs_headers.specs.Lists.{Element}
use Rattle.hs_headers.specs.Names.{is_left_paren, starts_name, starts_export}

pub cname_starts : (y : CNameTree) → begins starts_name (cname_tokens y) ≡ true
cname_starts (n.Var (v.Id m)) = refl
cname_starts (n.Var (v.Sym m)) = refl
cname_starts (n.Con (c.Id m)) = refl
cname_starts (n.Con (c.Sym m)) = refl

abbrev pub cname_element : Element CNameTree
cname_element = record {
  tokens = cname_tokens;
  formed = is_cname;
  extends = λ y k. false;
  starter = starts_name;
  least = n.Var (v.Id []);
  least_formed = refl;
  starts = cname_starts;
  comma = λ y. refl;
  close = λ y. refl;
  no_comma = refl;
  no_close = refl;
}

pub export_starts : (y : ExportTree) → begins starts_export (export_tokens y) ≡ true
export_starts (x.Var (q.Id m)) = refl
export_starts (x.Var (q.Sym m)) = refl
export_starts (x.Var (q.QualifiedId m)) = refl
export_starts (x.Var (q.QualifiedSym m)) = refl
export_starts (x.Type m) = refl
export_starts (x.TypeWith m subs) = refl
export_starts (x.Module m) = refl

abbrev pub export_element : Element ExportTree
export_element = record {
  tokens = export_tokens;
  formed = is_export;
  extends = λ y k. is_left_paren k;
  starter = starts_export;
  least = x.Var (q.Id []);
  least_formed = refl;
  starts = export_starts;
  comma = λ y. refl;
  close = λ y. refl;
  no_comma = refl;
  no_close = refl;
}

pub item_starts : (y : ItemTree) → begins starts_name (item_tokens y) ≡ true
item_starts (i.Var (v.Id m)) = refl
item_starts (i.Var (v.Sym m)) = refl
item_starts (i.Type m) = refl
item_starts (i.TypeWith m subs) = refl

abbrev pub item_element : Element ItemTree
item_element = record {
  tokens = item_tokens;
  formed = is_item;
  extends = λ y k. is_left_paren k;
  starter = starts_name;
  least = i.Var (v.Id []);
  least_formed = refl;
  starts = item_starts;
  comma = λ y. refl;
  close = λ y. refl;
  no_comma = refl;
  no_close = refl;
}
