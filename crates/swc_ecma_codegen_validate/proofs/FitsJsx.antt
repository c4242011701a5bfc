-- The same of JSX.
use Rattle.std.proofs.Common.{◌≡◌, ◌||◌, true, false, not, List, Option, Some, None, refl}
use Rattle.std.specs.Option.{is_some}
use Rattle.swc_ecma_codegen_tree.specs.declared.idents.Ident.{Ident}
use Rattle.swc_ecma_codegen_tree.specs.declared.jsx.JSXAttr.{JSXAttr}
use Rattle.swc_ecma_codegen_tree.specs.declared.jsx.JSXAttrName.{JSXAttrName}
use Rattle.swc_ecma_codegen_tree.specs.declared.jsx.JSXAttrOrSpread.{JSXAttrOrSpread}
use Rattle.swc_ecma_codegen_tree.specs.declared.jsx.JSXAttrValue.{JSXAttrValue}
use Rattle.swc_ecma_codegen_tree.specs.declared.jsx.JSXClosingElement.{JSXClosingElement}
use Rattle.swc_ecma_codegen_tree.specs.declared.jsx.JSXElement.{JSXElement}
use Rattle.swc_ecma_codegen_tree.specs.declared.jsx.JSXElementChild.{JSXElementChild}
use Rattle.swc_ecma_codegen_tree.specs.declared.jsx.JSXElementName.{JSXElementName}
use Rattle.swc_ecma_codegen_tree.specs.declared.jsx.JSXExpr.{JSXExpr}
use Rattle.swc_ecma_codegen_tree.specs.declared.jsx.JSXExprContainer.{JSXExprContainer}
use Rattle.swc_ecma_codegen_tree.specs.declared.jsx.JSXFragment.{JSXFragment}
use Rattle.swc_ecma_codegen_tree.specs.declared.jsx.JSXMemberExpr.{JSXMemberExpr}
use Rattle.swc_ecma_codegen_tree.specs.declared.jsx.JSXNamespacedName.{JSXNamespacedName}
use Rattle.swc_ecma_codegen_tree.specs.declared.jsx.JSXObject.{JSXObject}
use Rattle.swc_ecma_codegen_tree.specs.declared.jsx.JSXOpeningElement.{JSXOpeningElement}
use Rattle.swc_ecma_codegen_tree.specs.declared.jsx.JSXSpreadChild.{JSXSpreadChild}
use Rattle.swc_ecma_codegen_tree.specs.declared.lits.JSXText.{JSXText}
use Rattle.swc_ecma_codegen_tree.specs.declared.jsx.JSXElementName.TheVariants as jsx_element_names
use Rattle.swc_ecma_codegen_tree.specs.declared.jsx.JSXObject.TheVariants as jsx_objects
use Rattle.swc_ecma_codegen_tree.specs.declared.jsx.JSXAttrOrSpread.TheVariants as jsx_attr_or_spreads
use Rattle.swc_ecma_codegen_tree.specs.declared.jsx.JSXAttrName.TheVariants as jsx_attr_names
use Rattle.swc_ecma_codegen_tree.specs.declared.jsx.JSXAttrValue.TheVariants as jsx_attr_values
use Rattle.swc_ecma_codegen_tree.specs.declared.jsx.JSXElementChild.TheVariants as jsx_element_childs
use Rattle.swc_ecma_codegen_tree.specs.declared.jsx.JSXExpr.TheVariants as jsx_exprs
use Rattle.swc_ecma_codegen_grammar.specs.declared.roles.Role.{Role}
use Rattle.swc_ecma_codegen_grammar.specs.declared.roles.Role.TheVariants.{Child, Element, Expression, TagObject, TypeArguments}
use Rattle.swc_ecma_codegen_grammar.specs.JsxPhrases.{ends_in_text, is_parted, jsx_attr, jsx_attr_init, jsx_attr_name, jsx_attr_or_spread, jsx_attr_value, jsx_closing_element, jsx_element, jsx_element_child, jsx_element_name, jsx_expr, jsx_expr_container, jsx_fragment, jsx_member_expr, jsx_namespaced_name, jsx_object, jsx_opening_element, jsx_rest, jsx_spread_child, jsx_text, tag_ident}
use Rattle.swc_ecma_codegen_grammar.specs.Phrases.{Phrase, is_possible}
use Rattle.swc_ecma_codegen_validate.specs.Possible.{all_possible}
use Rattle.swc_ecma_codegen_validate.specs.JsxRules as rules
use Rattle.swc_ecma_codegen_validate.specs.Rules.{Findings, findings, no_links, in_some}
use Rattle.swc_ecma_codegen_validate.proofs.Fitting.{Held, each_fits, some_fits}
use Rattle.swc_ecma_codegen_validate.proofs.FitsExprs.{spread_element_fits}
use Rattle.swc_ecma_codegen_validate.proofs.JsxPossible.{child_container_possible, children_possible, closed_possible, closing_possible as jsxPossible_closing_possible, container_possible, fragment_possible, opening_possible, spread_possible as jsxPossible_spread_possible, unclosed_possible}

pub tag_rules_fits : (n : Ident) → (findings no_links (rules.tag_rules n)).none → is_possible (tag_ident n) ≡ true
unfolding findings rules.tag_rules
tag_rules_fits n h = h.1

pub jsx_namespaced_name_fits : (n : JSXNamespacedName) → (findings no_links (rules.jsx_namespaced_name n)).none → is_possible (jsx_namespaced_name n) ≡ true
unfolding findings rules.jsx_namespaced_name jsx_namespaced_name is_possible
jsx_namespaced_name_fits n h = simp (h.0, h.1)

pub jsx_attr_name_fits : (n : JSXAttrName) → (findings no_links (rules.jsx_attr_name n)).none → is_possible (jsx_attr_name n) ≡ true
unfolding findings rules.jsx_attr_name jsx_attr_name
jsx_attr_name_fits (jsx_attr_names.Ident n) h = simp (h)
jsx_attr_name_fits (jsx_attr_names.JSXNamespacedName n) h = simp (jsx_namespaced_name_fits n h)

pub jsx_text_fits : (n : JSXText) → (findings no_links (rules.jsx_text n)).none → is_possible (jsx_text n) ≡ true
unfolding findings rules.jsx_text
jsx_text_fits n h = h

module _ {X : Type 0} (f : X → Role → Findings) (g : X → Role → Phrase) (held : Held f g) where
  pub jsx_member_expr_fits : (n : JSXMemberExpr X) → (findings f (rules.jsx_member_expr n)).none → is_possible (jsx_member_expr g n) ≡ true
  unfolding findings rules.jsx_member_expr jsx_member_expr is_possible
  jsx_member_expr_fits n h = simp (held.node n.obj.node.value TagObject h.0, h.1)

  pub jsx_object_fits : (n : JSXObject X) → (findings f (rules.jsx_object n)).none → is_possible (jsx_object g n) ≡ true
  unfolding findings rules.jsx_object jsx_object
  jsx_object_fits (jsx_objects.JSXMemberExpr n) h = simp (jsx_member_expr_fits n h)
  jsx_object_fits (jsx_objects.Ident n) h = simp (tag_rules_fits n h)

  pub jsx_element_name_fits : (n : JSXElementName X) → (findings f (rules.jsx_element_name n)).none → is_possible (jsx_element_name g n) ≡ true
  unfolding findings rules.jsx_element_name jsx_element_name
  jsx_element_name_fits (jsx_element_names.Ident n) h = simp (tag_rules_fits n h)
  jsx_element_name_fits (jsx_element_names.JSXMemberExpr n) h = simp (jsx_member_expr_fits n h)
  jsx_element_name_fits (jsx_element_names.JSXNamespacedName n) h = simp (jsx_namespaced_name_fits n h)

  pub jsx_expr_fits : (n : JSXExpr X) → (findings f (rules.jsx_expr n)).none → is_possible (jsx_expr g n) ≡ true
  unfolding findings rules.jsx_expr jsx_expr is_possible
  jsx_expr_fits (jsx_exprs.JSXEmptyExpr n) h = refl
  jsx_expr_fits (jsx_exprs.Expr n) h = simp (held.node n.node.value Expression h)

  pub jsx_expr_container_fits : (n : JSXExprContainer X) → (findings f (rules.jsx_expr_container n)).none → is_possible (jsx_expr_container g false n) ≡ true
  unfolding findings rules.jsx_expr_container
  jsx_expr_container_fits n h = simp (container_possible, jsx_expr_fits n.expr h)

  pub jsx_spread_child_fits : (n : JSXSpreadChild X) → (findings f (rules.jsx_spread_child n)).none → is_possible (jsx_spread_child g n) ≡ true
  unfolding findings rules.jsx_spread_child
  jsx_spread_child_fits n h = simp (jsxPossible_spread_possible, held.node n.expr.node.value Expression h)

  pub jsx_attr_value_fits : (n : JSXAttrValue X) → (findings f (rules.jsx_attr_value n)).none → is_possible (jsx_attr_value g n) ≡ true
  unfolding findings rules.jsx_attr_value jsx_attr_value
  jsx_attr_value_fits (jsx_attr_values.Lit n) h = simp (h)
  jsx_attr_value_fits (jsx_attr_values.JSXExprContainer n) h = simp (jsx_expr_container_fits n h)
  jsx_attr_value_fits (jsx_attr_values.JSXElement n) h = simp (held.node n.node.value Element h)
  jsx_attr_value_fits (jsx_attr_values.JSXFragment n) h = simp (held.node n.node.value Element h)

  jsx_attr_init_fits : (o : Option (JSXAttrValue X)) → (in_some (λ x. findings f (rules.jsx_attr_value x)) o).none → is_possible (jsx_attr_init g o) ≡ true
  unfolding in_some jsx_attr_init is_possible
  jsx_attr_init_fits None h = refl
  jsx_attr_init_fits (Some n) h = jsx_attr_value_fits n h

  pub jsx_attr_fits : (n : JSXAttr X) → (findings f (rules.jsx_attr n)).none → is_possible (jsx_attr g n) ≡ true
  unfolding findings rules.jsx_attr jsx_attr is_possible
  jsx_attr_fits n h = simp (jsx_attr_name_fits n.name h.0, jsx_attr_init_fits n.value h.1)

  pub jsx_attr_or_spread_fits : (n : JSXAttrOrSpread X) → (findings f (rules.jsx_attr_or_spread n)).none → is_possible (jsx_attr_or_spread g n) ≡ true
  unfolding findings rules.jsx_attr_or_spread jsx_attr_or_spread is_possible
  jsx_attr_or_spread_fits (jsx_attr_or_spreads.JSXAttr n) h = simp (jsx_attr_fits n h)
  jsx_attr_or_spread_fits (jsx_attr_or_spreads.SpreadElement n) h = simp (spread_element_fits f g held n h)

  pub jsx_opening_element_fits : (n : JSXOpeningElement X) → (findings f (rules.jsx_opening_element n)).none → is_possible (jsx_opening_element g false n) ≡ true
  unfolding findings rules.jsx_opening_element
  jsx_opening_element_fits n h = simp (opening_possible, jsx_element_name_fits n.name h.0, some_fits _ _ n.type_args h.1.0 (λ x. held.node x.node.value TypeArguments), each_fits _ (jsx_attr_or_spread g) _ n.attrs.items h.1.1 jsx_attr_or_spread_fits)

  pub jsx_closing_element_fits : (n : JSXClosingElement X) → (findings f (rules.jsx_closing_element n)).none → is_possible (jsx_closing_element g n) ≡ true
  unfolding findings rules.jsx_closing_element
  jsx_closing_element_fits n h = simp (jsxPossible_closing_possible, jsx_element_name_fits n.name h)

  pub jsx_element_child_fits : (n : JSXElementChild X) → (findings f (rules.jsx_element_child n)).none → is_possible (jsx_element_child g n) ≡ true
  unfolding findings rules.jsx_element_child jsx_element_child
  jsx_element_child_fits (jsx_element_childs.JSXText n) h = simp (jsx_text_fits n h)
  jsx_element_child_fits (jsx_element_childs.JSXExprContainer n) h = simp (jsx_expr_container_fits n h, child_container_possible)
  jsx_element_child_fits (jsx_element_childs.JSXSpreadChild n) h = simp (jsx_spread_child_fits n h)
  jsx_element_child_fits (jsx_element_childs.JSXElement n) h = simp (held.node n.node.value Child h)
  jsx_element_child_fits (jsx_element_childs.JSXFragment n) h = simp (held.node n.node.value Child h)

  rest_fits : (xs : List (JSXElementChild X)) (o : Option (JSXClosingElement X)) → (is_some o || not (ends_in_text false xs)) ≡ true → is_parted false xs ≡ true → all_possible (jsx_element_child g) xs ≡ true → (in_some (λ x. findings f (rules.jsx_closing_element x)) o).none → is_possible (jsx_rest g xs o) ≡ true
  unfolding in_some
  rest_fits xs None e p c h = simp (unclosed_possible g xs, e, children_possible g xs, p, c)
  rest_fits xs (Some n) e p c h = simp (closed_possible g xs n, children_possible g xs, p, c, jsx_closing_element_fits n h)

  pub jsx_element_fits : (n : JSXElement X) → (findings f (rules.jsx_element n)).none → is_possible (jsx_element g false n) ≡ true
  unfolding findings rules.jsx_element jsx_element is_possible
  jsx_element_fits n h = simp (jsx_opening_element_fits n.opening h.1.1.0, rest_fits n.children.items n.closing h.0 h.1.0 (each_fits _ (jsx_element_child g) _ n.children.items h.1.1.1.0 jsx_element_child_fits) h.1.1.1.1)

  pub jsx_fragment_fits : (n : JSXFragment X) → (findings f (rules.jsx_fragment n)).none → is_possible (jsx_fragment g false n) ≡ true
  unfolding findings rules.jsx_fragment
  jsx_fragment_fits n h = simp (fragment_possible, children_possible, h.0, each_fits _ (jsx_element_child g) _ n.children.items h.1 jsx_element_child_fits)
