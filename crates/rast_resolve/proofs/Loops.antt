-- Names that are gathered from items, each once.
use Rattle.std.proofs.Common.{◌≡◌, ℕ, ◌+◌, ◌<◌, cond, List, [], ◌∷◌, ◌++◌, length, get_or, drop, sym, ◌∙◌, ap, refl}
use Rattle.std.specs.List.{flat_map}
use Rattle.rast_ast.specs.declared.file.Item.{Item}
use Rattle.rast_resolve.specs.Scopes.{Texts, is_among, once_from}
use Rattle.rast_resolve.proofs.Chains.{opened}

pub once_both : (seen xs ys : Texts) → once_from seen (xs ++ ys) ≡ once_from (once_from seen xs) ys
once_both seen [] ys = refl
once_both seen (x ∷ xs) ys = once_both (cond (is_among x seen) seen (seen ++ x ∷ [])) xs ys

module _ (f : Item → Texts) (is : List Item) (i : ℕ) (x : Item) (names whole : Texts) (chain : once_from names (flat_map f (drop i is)) ≡ whole) (h : i < length is) (here : x ≡ get_or is i x) where
  pub names_turn : (more : Texts) → more ≡ once_from names (f x) → once_from more (flat_map f (drop (i + 1) is)) ≡ whole
  names_turn more e = rw e (sym (once_both names (f x) (flat_map f (drop (i + 1) is))) ∙ sym (ap (λ z. once_from names (flat_map f z)) (opened is i x h here)) ∙ chain)
