-- Where the map of JSX is another map of the same type, with names as they are. Made by scripts/dev/make-visit-files.
use Rattle.std.proofs.Common.{◌≡◌, ap, ◌∙◌, Option}
use Rattle.std.specs.declared.alloc.Global.{Global}
use Rattle.std.specs.declared.vec.Vec.{Vec}
use Rattle.std.specs.formers.vec.Vec.{mapped as vec_mapped}
use Rattle.swc_ecma_codegen_tree.specs.declared.idents.Ident.{Ident}
use Rattle.swc_ecma_codegen_tree.specs.declared.jsx.JSXAttr.{JSXAttr}
use Rattle.swc_ecma_codegen_tree.specs.declared.jsx.JSXAttrOrSpread.{JSXAttrOrSpread}
use Rattle.swc_ecma_codegen_tree.specs.declared.jsx.JSXAttrValue.{JSXAttrValue}
use Rattle.swc_ecma_codegen_tree.specs.declared.jsx.JSXClosingElement.{JSXClosingElement}
use Rattle.swc_ecma_codegen_tree.specs.declared.jsx.JSXElement.{JSXElement}
use Rattle.swc_ecma_codegen_tree.specs.declared.jsx.JSXElementChild.{JSXElementChild}
use Rattle.swc_ecma_codegen_tree.specs.declared.jsx.JSXElementName.{JSXElementName}
use Rattle.swc_ecma_codegen_tree.specs.declared.jsx.JSXEmptyExpr.{JSXEmptyExpr}
use Rattle.swc_ecma_codegen_tree.specs.declared.jsx.JSXExpr.{JSXExpr}
use Rattle.swc_ecma_codegen_tree.specs.declared.jsx.JSXExprContainer.{JSXExprContainer}
use Rattle.swc_ecma_codegen_tree.specs.declared.jsx.JSXFragment.{JSXFragment}
use Rattle.swc_ecma_codegen_tree.specs.declared.jsx.JSXMemberExpr.{JSXMemberExpr}
use Rattle.swc_ecma_codegen_tree.specs.declared.jsx.JSXNamespacedName.{JSXNamespacedName}
use Rattle.swc_ecma_codegen_tree.specs.declared.jsx.JSXObject.{JSXObject}
use Rattle.swc_ecma_codegen_tree.specs.declared.jsx.JSXOpeningElement.{JSXOpeningElement}
use Rattle.swc_ecma_codegen_tree.specs.declared.jsx.JSXSpreadChild.{JSXSpreadChild}
use Rattle.swc_ecma_codegen_tree.specs.declared.lits.JSXText.{JSXText}
use Rattle.swc_ecma_codegen_tree.specs.declared.lits.Lit.{Lit}
use Rattle.swc_ecma_codegen_tree.specs.declared.exprs.SpreadElement.{SpreadElement}
use Rattle.swc_ecma_codegen_tree.specs.declared.jsx.JSXAttrOrSpread.TheVariants as jsx_attr_or_spreads
use Rattle.swc_ecma_codegen_tree.specs.declared.jsx.JSXAttrValue.TheVariants as jsx_attr_values
use Rattle.swc_ecma_codegen_tree.specs.declared.jsx.JSXElementChild.TheVariants as jsx_element_childs
use Rattle.swc_ecma_codegen_tree.specs.declared.jsx.JSXElementName.TheVariants as jsx_element_names
use Rattle.swc_ecma_codegen_tree.specs.declared.jsx.JSXExpr.TheVariants as jsx_exprs
use Rattle.swc_ecma_codegen_tree.specs.declared.jsx.JSXObject.TheVariants as jsx_objects
use Rattle.swc_ecma_codegen_tree.specs.Links.{ExprBox, JSXElementBox, JSXFragmentBox, TsTypeParamInstantiationBox}
use Rattle.swc_ecma_codegen_visit.specs.Mapping.{map_link, map_option}
use Rattle.swc_ecma_codegen_visit.specs.MappedExprs.{map_jsx_member_expr, map_spread_element}
use Rattle.swc_ecma_codegen_visit.specs.MappedJsx.{map_jsx_attr, map_jsx_attr_or_spread, map_jsx_attr_value, map_jsx_closing_element}
use Rattle.swc_ecma_codegen_visit.specs.MappedJsx.{map_jsx_element, map_jsx_element_child, map_jsx_element_name, map_jsx_expr}
use Rattle.swc_ecma_codegen_visit.specs.MappedJsx.{map_jsx_expr_container, map_jsx_fragment, map_jsx_object, map_jsx_opening_element}
use Rattle.swc_ecma_codegen_visit.specs.MappedJsx.{map_jsx_spread_child}

pub in_jsx_element_name : {X : Type 0} (f : X → X) (D : JSXElementName X → JSXElementName X) → ((n : Ident) → jsx_element_names.Ident n ≡ D
    (jsx_element_names.Ident n)) → ((n : JSXMemberExpr X) → jsx_element_names.JSXMemberExpr (map_jsx_member_expr (λ x. x) f n) ≡ D
    (jsx_element_names.JSXMemberExpr n)) → ((n : JSXNamespacedName) → jsx_element_names.JSXNamespacedName n ≡ D
    (jsx_element_names.JSXNamespacedName n)) → (n : JSXElementName X) → map_jsx_element_name (λ x. x) f n ≡ D n
in_jsx_element_name f D is_Ident is_JSXMemberExpr is_JSXNamespacedName (jsx_element_names.Ident n) = is_Ident n
in_jsx_element_name f D is_Ident is_JSXMemberExpr is_JSXNamespacedName (jsx_element_names.JSXMemberExpr n) = is_JSXMemberExpr n
in_jsx_element_name f D is_Ident is_JSXMemberExpr is_JSXNamespacedName (jsx_element_names.JSXNamespacedName n) = is_JSXNamespacedName n

pub in_jsx_expr : {X : Type 0} (f : X → X) (D : JSXExpr X → JSXExpr X) → ((n : JSXEmptyExpr) → jsx_exprs.JSXEmptyExpr n ≡ D
    (jsx_exprs.JSXEmptyExpr n)) → ((n : ExprBox X) → jsx_exprs.Expr (map_link f n) ≡ D (jsx_exprs.Expr n)) → (n : JSXExpr X) → map_jsx_expr
    (λ x. x) f n ≡ D n
in_jsx_expr f D is_JSXEmptyExpr is_Expr (jsx_exprs.JSXEmptyExpr n) = is_JSXEmptyExpr n
in_jsx_expr f D is_JSXEmptyExpr is_Expr (jsx_exprs.Expr n) = is_Expr n

pub in_jsx_expr_container : {X : Type 0} (f : X → X) (D : JSXExprContainer X → JSXExprContainer X) {to_a : JSXExpr X → JSXExpr X} → ((n :
    JSXExprContainer X) (a : JSXExpr X) → record n { expr = to_a a } ≡ D (record n { expr = a })) → ((x : JSXExpr X) → map_jsx_expr (λ x. x)
    f x ≡ to_a x) → (n : JSXExprContainer X) → map_jsx_expr_container (λ x. x) f n ≡ D n
in_jsx_expr_container f D is at_a n = (λ i. record n { expr = at_a n.expr i }) ∙ is n n.expr

pub in_jsx_attr_value : {X : Type 0} (f : X → X) (D : JSXAttrValue X → JSXAttrValue X)
    {to_JSXExprContainer : JSXExprContainer X → JSXExprContainer X} → ((n : Lit) → jsx_attr_values.Lit n ≡ D (jsx_attr_values.Lit n)) → ((n
    : JSXExprContainer X) → jsx_attr_values.JSXExprContainer (to_JSXExprContainer n) ≡ D (jsx_attr_values.JSXExprContainer n)) → ((n :
    JSXExprContainer X) → map_jsx_expr_container (λ x. x) f n ≡ to_JSXExprContainer n) → ((n : JSXElementBox X) → jsx_attr_values.JSXElement
    (map_link f n) ≡ D (jsx_attr_values.JSXElement n)) → ((n : JSXFragmentBox X) → jsx_attr_values.JSXFragment (map_link f n) ≡ D
    (jsx_attr_values.JSXFragment n)) → (n : JSXAttrValue X) → map_jsx_attr_value (λ x. x) f n ≡ D n
in_jsx_attr_value f D is_Lit is_JSXExprContainer at_JSXExprContainer is_JSXElement is_JSXFragment (jsx_attr_values.Lit n) = is_Lit n
in_jsx_attr_value f D is_Lit is_JSXExprContainer at_JSXExprContainer is_JSXElement is_JSXFragment (jsx_attr_values.JSXExprContainer n) = ap
    jsx_attr_values.JSXExprContainer (at_JSXExprContainer n) ∙ is_JSXExprContainer n
in_jsx_attr_value f D is_Lit is_JSXExprContainer at_JSXExprContainer is_JSXElement is_JSXFragment (jsx_attr_values.JSXElement n) =
    is_JSXElement n
in_jsx_attr_value f D is_Lit is_JSXExprContainer at_JSXExprContainer is_JSXElement is_JSXFragment (jsx_attr_values.JSXFragment n) =
    is_JSXFragment n

pub in_jsx_attr : {X : Type 0} (f : X → X) (D : JSXAttr X → JSXAttr X) {to_a : Option (JSXAttrValue X) → Option (JSXAttrValue X)} → ((n :
    JSXAttr X) (a : Option (JSXAttrValue X)) → record n { value = to_a a } ≡ D (record n { value = a })) → ((x : Option (JSXAttrValue X)) →
    map_option (map_jsx_attr_value (λ x. x) f) x ≡ to_a x) → (n : JSXAttr X) → map_jsx_attr (λ x. x) f n ≡ D n
in_jsx_attr f D is at_a n = (λ i. record n { value = at_a n.value i }) ∙ is n n.value

pub in_jsx_attr_or_spread : {X : Type 0} (f : X → X) (D : JSXAttrOrSpread X → JSXAttrOrSpread X) {to_JSXAttr : JSXAttr X → JSXAttr X} → ((n
    : JSXAttr X) → jsx_attr_or_spreads.JSXAttr (to_JSXAttr n) ≡ D (jsx_attr_or_spreads.JSXAttr n)) → ((n : JSXAttr X) → map_jsx_attr (λ x.
    x) f n ≡ to_JSXAttr n) → ((n : SpreadElement X) → jsx_attr_or_spreads.SpreadElement (map_spread_element (λ x. x) f n) ≡ D
    (jsx_attr_or_spreads.SpreadElement n)) → (n : JSXAttrOrSpread X) → map_jsx_attr_or_spread (λ x. x) f n ≡ D n
in_jsx_attr_or_spread f D is_JSXAttr at_JSXAttr is_SpreadElement (jsx_attr_or_spreads.JSXAttr n) = ap jsx_attr_or_spreads.JSXAttr
    (at_JSXAttr n) ∙ is_JSXAttr n
in_jsx_attr_or_spread f D is_JSXAttr at_JSXAttr is_SpreadElement (jsx_attr_or_spreads.SpreadElement n) = is_SpreadElement n

pub in_jsx_opening_element : {X : Type 0} (f : X → X) (D : JSXOpeningElement X → JSXOpeningElement X)
    {to_a : JSXElementName X → JSXElementName X} {to_b : Vec (JSXAttrOrSpread X) Global → Vec (JSXAttrOrSpread X) Global}
    {to_c : Option (TsTypeParamInstantiationBox X) → Option (TsTypeParamInstantiationBox X)} → ((n : JSXOpeningElement X) (a :
    JSXElementName X) (b : Vec (JSXAttrOrSpread X) Global) (c : Option (TsTypeParamInstantiationBox X)) → record n
    { name = to_a a; attrs = to_b b; type_args = to_c c } ≡ D (record n { name = a; attrs = b; type_args = c })) → ((x : JSXElementName X) →
    map_jsx_element_name (λ x. x) f x ≡ to_a x) → ((x : Vec (JSXAttrOrSpread X) Global) → vec_mapped (map_jsx_attr_or_spread (λ x. x) f) x ≡
    to_b x) → ((x : Option (TsTypeParamInstantiationBox X)) → map_option (map_link f) x ≡ to_c x) → (n : JSXOpeningElement X) →
    map_jsx_opening_element (λ x. x) f n ≡ D n
in_jsx_opening_element f D is at_a at_b at_c n = (λ i. record n
    { name = at_a n.name i; attrs = at_b n.attrs i; type_args = at_c n.type_args i }) ∙ is n n.name n.attrs n.type_args

pub in_jsx_element_child : {X : Type 0} (f : X → X) (D : JSXElementChild X → JSXElementChild X)
    {to_JSXExprContainer : JSXExprContainer X → JSXExprContainer X} → ((n : JSXText) → jsx_element_childs.JSXText n ≡ D
    (jsx_element_childs.JSXText n)) → ((n : JSXExprContainer X) → jsx_element_childs.JSXExprContainer (to_JSXExprContainer n) ≡ D
    (jsx_element_childs.JSXExprContainer n)) → ((n : JSXExprContainer X) → map_jsx_expr_container (λ x. x) f n ≡ to_JSXExprContainer n) →
    ((n : JSXSpreadChild X) → jsx_element_childs.JSXSpreadChild (map_jsx_spread_child (λ x. x) f n) ≡ D (jsx_element_childs.JSXSpreadChild
    n)) → ((n : JSXElementBox X) → jsx_element_childs.JSXElement (map_link f n) ≡ D (jsx_element_childs.JSXElement n)) → ((n :
    JSXFragmentBox X) → jsx_element_childs.JSXFragment (map_link f n) ≡ D (jsx_element_childs.JSXFragment n)) → (n : JSXElementChild X) →
    map_jsx_element_child (λ x. x) f n ≡ D n
in_jsx_element_child f D is_JSXText is_JSXExprContainer at_JSXExprContainer is_JSXSpreadChild is_JSXElement is_JSXFragment
    (jsx_element_childs.JSXText n) = is_JSXText n
in_jsx_element_child f D is_JSXText is_JSXExprContainer at_JSXExprContainer is_JSXSpreadChild is_JSXElement is_JSXFragment
    (jsx_element_childs.JSXExprContainer n) = ap jsx_element_childs.JSXExprContainer (at_JSXExprContainer n) ∙ is_JSXExprContainer n
in_jsx_element_child f D is_JSXText is_JSXExprContainer at_JSXExprContainer is_JSXSpreadChild is_JSXElement is_JSXFragment
    (jsx_element_childs.JSXSpreadChild n) = is_JSXSpreadChild n
in_jsx_element_child f D is_JSXText is_JSXExprContainer at_JSXExprContainer is_JSXSpreadChild is_JSXElement is_JSXFragment
    (jsx_element_childs.JSXElement n) = is_JSXElement n
in_jsx_element_child f D is_JSXText is_JSXExprContainer at_JSXExprContainer is_JSXSpreadChild is_JSXElement is_JSXFragment
    (jsx_element_childs.JSXFragment n) = is_JSXFragment n

pub in_jsx_closing_element : {X : Type 0} (f : X → X) (D : JSXClosingElement X → JSXClosingElement X)
    {to_a : JSXElementName X → JSXElementName X} → ((n : JSXClosingElement X) (a : JSXElementName X) → record n { name = to_a a } ≡ D
    (record n { name = a })) → ((x : JSXElementName X) → map_jsx_element_name (λ x. x) f x ≡ to_a x) → (n : JSXClosingElement X) →
    map_jsx_closing_element (λ x. x) f n ≡ D n
in_jsx_closing_element f D is at_a n = (λ i. record n { name = at_a n.name i }) ∙ is n n.name

pub in_jsx_element : {X : Type 0} (f : X → X) (D : JSXElement X → JSXElement X) {to_a : JSXOpeningElement X → JSXOpeningElement X}
    {to_b : Vec (JSXElementChild X) Global → Vec (JSXElementChild X) Global}
    {to_c : Option (JSXClosingElement X) → Option (JSXClosingElement X)} → ((n : JSXElement X) (a : JSXOpeningElement X) (b : Vec
    (JSXElementChild X) Global) (c : Option (JSXClosingElement X)) → record n { opening = to_a a; children = to_b b; closing = to_c c } ≡ D
    (record n { opening = a; children = b; closing = c })) → ((x : JSXOpeningElement X) → map_jsx_opening_element (λ x. x) f x ≡ to_a x) →
    ((x : Vec (JSXElementChild X) Global) → vec_mapped (map_jsx_element_child (λ x. x) f) x ≡ to_b x) → ((x : Option (JSXClosingElement X))
    → map_option (map_jsx_closing_element (λ x. x) f) x ≡ to_c x) → (n : JSXElement X) → map_jsx_element (λ x. x) f n ≡ D n
in_jsx_element f D is at_a at_b at_c n = (λ i. record n
    { opening = at_a n.opening i; children = at_b n.children i; closing = at_c n.closing i }) ∙ is n n.opening n.children n.closing

pub in_jsx_fragment : {X : Type 0} (f : X → X) (D : JSXFragment X → JSXFragment X)
    {to_a : Vec (JSXElementChild X) Global → Vec (JSXElementChild X) Global} → ((n : JSXFragment X) (a : Vec (JSXElementChild X) Global) →
    record n { children = to_a a } ≡ D (record n { children = a })) → ((x : Vec (JSXElementChild X) Global) → vec_mapped
    (map_jsx_element_child (λ x. x) f) x ≡ to_a x) → (n : JSXFragment X) → map_jsx_fragment (λ x. x) f n ≡ D n
in_jsx_fragment f D is at_a n = (λ i. record n { children = at_a n.children i }) ∙ is n n.children

pub in_jsx_object : {X : Type 0} (f : X → X) (D : JSXObject X → JSXObject X) → ((n : JSXMemberExpr X) → jsx_objects.JSXMemberExpr
    (map_jsx_member_expr (λ x. x) f n) ≡ D (jsx_objects.JSXMemberExpr n)) → ((n : Ident) → jsx_objects.Ident n ≡ D (jsx_objects.Ident n)) →
    (n : JSXObject X) → map_jsx_object (λ x. x) f n ≡ D n
in_jsx_object f D is_JSXMemberExpr is_Ident (jsx_objects.JSXMemberExpr n) = is_JSXMemberExpr n
in_jsx_object f D is_JSXMemberExpr is_Ident (jsx_objects.Ident n) = is_Ident n
