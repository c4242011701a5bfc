-- One map of JSX behind another is one map. Made by scripts/dev/make-visit-files.
use Rattle.std.proofs.Common.{◌≡◌, refl, ap}
use Rattle.swc_ecma_codegen_tree.specs.declared.idents.Ident.{Ident}
use Rattle.swc_ecma_codegen_tree.specs.declared.jsx.JSXAttr.{JSXAttr}
use Rattle.swc_ecma_codegen_tree.specs.declared.jsx.JSXAttrOrSpread.{JSXAttrOrSpread}
use Rattle.swc_ecma_codegen_tree.specs.declared.jsx.JSXAttrValue.{JSXAttrValue}
use Rattle.swc_ecma_codegen_tree.specs.declared.jsx.JSXClosingElement.{JSXClosingElement}
use Rattle.swc_ecma_codegen_tree.specs.declared.jsx.JSXElement.{JSXElement}
use Rattle.swc_ecma_codegen_tree.specs.declared.jsx.JSXElementChild.{JSXElementChild}
use Rattle.swc_ecma_codegen_tree.specs.declared.jsx.JSXElementName.{JSXElementName}
use Rattle.swc_ecma_codegen_tree.specs.declared.jsx.JSXExpr.{JSXExpr}
use Rattle.swc_ecma_codegen_tree.specs.declared.jsx.JSXExprContainer.{JSXExprContainer}
use Rattle.swc_ecma_codegen_tree.specs.declared.jsx.JSXFragment.{JSXFragment}
use Rattle.swc_ecma_codegen_tree.specs.declared.jsx.JSXObject.{JSXObject}
use Rattle.swc_ecma_codegen_tree.specs.declared.jsx.JSXOpeningElement.{JSXOpeningElement}
use Rattle.swc_ecma_codegen_tree.specs.declared.jsx.JSXAttrOrSpread.TheVariants as jsx_attr_or_spreads
use Rattle.swc_ecma_codegen_tree.specs.declared.jsx.JSXAttrValue.TheVariants as jsx_attr_values
use Rattle.swc_ecma_codegen_tree.specs.declared.jsx.JSXElementChild.TheVariants as jsx_element_childs
use Rattle.swc_ecma_codegen_tree.specs.declared.jsx.JSXElementName.TheVariants as jsx_element_names
use Rattle.swc_ecma_codegen_tree.specs.declared.jsx.JSXExpr.TheVariants as jsx_exprs
use Rattle.swc_ecma_codegen_tree.specs.declared.jsx.JSXObject.TheVariants as jsx_objects
use Rattle.swc_ecma_codegen_visit.specs.Mapping.{map_link}
use Rattle.swc_ecma_codegen_visit.specs.MappedJsx.{map_jsx_attr, map_jsx_attr_or_spread, map_jsx_attr_value, map_jsx_closing_element}
use Rattle.swc_ecma_codegen_visit.specs.MappedJsx.{map_jsx_element, map_jsx_element_child, map_jsx_element_name, map_jsx_expr}
use Rattle.swc_ecma_codegen_visit.specs.MappedJsx.{map_jsx_expr_container, map_jsx_fragment, map_jsx_object, map_jsx_opening_element}
use Rattle.swc_ecma_codegen_visit.proofs.Fused.{option_fused, vec_fused}

pub fused_jsx_element_name : {X : Type 0} (g h : Ident → Ident) (f k : X → X) (n : JSXElementName X) → map_jsx_element_name g f
    (map_jsx_element_name h k n) ≡ map_jsx_element_name (λ x. g (h x)) (λ x. f (k x)) n
fused_jsx_element_name g h f k (jsx_element_names.Ident n) = refl
fused_jsx_element_name g h f k (jsx_element_names.JSXMemberExpr n) = refl
fused_jsx_element_name g h f k (jsx_element_names.JSXNamespacedName n) = refl

pub fused_jsx_expr : {X : Type 0} (g h : Ident → Ident) (f k : X → X) (n : JSXExpr X) → map_jsx_expr g f (map_jsx_expr h k n) ≡ map_jsx_expr
    (λ x. g (h x)) (λ x. f (k x)) n
fused_jsx_expr g h f k (jsx_exprs.JSXEmptyExpr n) = refl
fused_jsx_expr g h f k (jsx_exprs.Expr n) = refl

pub fused_jsx_expr_container : {X : Type 0} (g h : Ident → Ident) (f k : X → X) (n : JSXExprContainer X) → map_jsx_expr_container g f
    (map_jsx_expr_container h k n) ≡ map_jsx_expr_container (λ x. g (h x)) (λ x. f (k x)) n
fused_jsx_expr_container g h f k n = λ i. record n { expr = (fused_jsx_expr g h f k) n.expr i }

pub fused_jsx_attr_value : {X : Type 0} (g h : Ident → Ident) (f k : X → X) (n : JSXAttrValue X) → map_jsx_attr_value g f
    (map_jsx_attr_value h k n) ≡ map_jsx_attr_value (λ x. g (h x)) (λ x. f (k x)) n
fused_jsx_attr_value g h f k (jsx_attr_values.Lit n) = refl
fused_jsx_attr_value g h f k (jsx_attr_values.JSXExprContainer n) = ap jsx_attr_values.JSXExprContainer ((fused_jsx_expr_container g h f k)
    n)
fused_jsx_attr_value g h f k (jsx_attr_values.JSXElement n) = refl
fused_jsx_attr_value g h f k (jsx_attr_values.JSXFragment n) = refl

pub fused_jsx_attr : {X : Type 0} (g h : Ident → Ident) (f k : X → X) (n : JSXAttr X) → map_jsx_attr g f (map_jsx_attr h k n) ≡ map_jsx_attr
    (λ x. g (h x)) (λ x. f (k x)) n
fused_jsx_attr g h f k n = λ i. record n {
  value = (option_fused (map_jsx_attr_value g f) (map_jsx_attr_value h k) (map_jsx_attr_value (λ x. g (h x)) (λ x. f (k x))) (fused_jsx_attr_value g h f k)) n.value i;
}

pub fused_jsx_attr_or_spread : {X : Type 0} (g h : Ident → Ident) (f k : X → X) (n : JSXAttrOrSpread X) → map_jsx_attr_or_spread g f
    (map_jsx_attr_or_spread h k n) ≡ map_jsx_attr_or_spread (λ x. g (h x)) (λ x. f (k x)) n
fused_jsx_attr_or_spread g h f k (jsx_attr_or_spreads.JSXAttr n) = ap jsx_attr_or_spreads.JSXAttr ((fused_jsx_attr g h f k) n)
fused_jsx_attr_or_spread g h f k (jsx_attr_or_spreads.SpreadElement n) = refl

pub fused_jsx_opening_element : {X : Type 0} (g h : Ident → Ident) (f k : X → X) (n : JSXOpeningElement X) → map_jsx_opening_element g f
    (map_jsx_opening_element h k n) ≡ map_jsx_opening_element (λ x. g (h x)) (λ x. f (k x)) n
fused_jsx_opening_element g h f k n = λ i. record n {
  name = (fused_jsx_element_name g h f k) n.name i;
  attrs = (vec_fused (map_jsx_attr_or_spread g f) (map_jsx_attr_or_spread h k) (map_jsx_attr_or_spread (λ x. g (h x)) (λ x. f (k x))) (fused_jsx_attr_or_spread g h f k)) n.attrs i;
  type_args = (option_fused (map_link f) (map_link k) (map_link (λ x. f (k x))) (λ x. refl)) n.type_args i;
}

pub fused_jsx_element_child : {X : Type 0} (g h : Ident → Ident) (f k : X → X) (n : JSXElementChild X) → map_jsx_element_child g f
    (map_jsx_element_child h k n) ≡ map_jsx_element_child (λ x. g (h x)) (λ x. f (k x)) n
fused_jsx_element_child g h f k (jsx_element_childs.JSXText n) = refl
fused_jsx_element_child g h f k (jsx_element_childs.JSXExprContainer n) = ap jsx_element_childs.JSXExprContainer ((fused_jsx_expr_container
    g h f k) n)
fused_jsx_element_child g h f k (jsx_element_childs.JSXSpreadChild n) = refl
fused_jsx_element_child g h f k (jsx_element_childs.JSXElement n) = refl
fused_jsx_element_child g h f k (jsx_element_childs.JSXFragment n) = refl

pub fused_jsx_closing_element : {X : Type 0} (g h : Ident → Ident) (f k : X → X) (n : JSXClosingElement X) → map_jsx_closing_element g f
    (map_jsx_closing_element h k n) ≡ map_jsx_closing_element (λ x. g (h x)) (λ x. f (k x)) n
fused_jsx_closing_element g h f k n = λ i. record n { name = (fused_jsx_element_name g h f k) n.name i }

pub fused_jsx_element : {X : Type 0} (g h : Ident → Ident) (f k : X → X) (n : JSXElement X) → map_jsx_element g f (map_jsx_element h k n) ≡
    map_jsx_element (λ x. g (h x)) (λ x. f (k x)) n
fused_jsx_element g h f k n = λ i. record n {
  opening = (fused_jsx_opening_element g h f k) n.opening i;
  children = (vec_fused (map_jsx_element_child g f) (map_jsx_element_child h k) (map_jsx_element_child (λ x. g (h x)) (λ x. f (k x))) (fused_jsx_element_child g h f k)) n.children i;
  closing = (option_fused (map_jsx_closing_element g f) (map_jsx_closing_element h k) (map_jsx_closing_element (λ x. g (h x)) (λ x. f (k x))) (fused_jsx_closing_element g h f k)) n.closing i;
}

pub fused_jsx_fragment : {X : Type 0} (g h : Ident → Ident) (f k : X → X) (n : JSXFragment X) → map_jsx_fragment g f (map_jsx_fragment h k
    n) ≡ map_jsx_fragment (λ x. g (h x)) (λ x. f (k x)) n
fused_jsx_fragment g h f k n = λ i. record n {
  children = (vec_fused (map_jsx_element_child g f) (map_jsx_element_child h k) (map_jsx_element_child (λ x. g (h x)) (λ x. f (k x))) (fused_jsx_element_child g h f k)) n.children i;
}

pub fused_jsx_object : {X : Type 0} (g h : Ident → Ident) (f k : X → X) (n : JSXObject X) → map_jsx_object g f (map_jsx_object h k n) ≡
    map_jsx_object (λ x. g (h x)) (λ x. f (k x)) n
fused_jsx_object g h f k (jsx_objects.JSXMemberExpr n) = refl
fused_jsx_object g h f k (jsx_objects.Ident n) = refl
