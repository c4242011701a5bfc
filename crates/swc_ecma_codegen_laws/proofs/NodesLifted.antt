-- What holds of words holds of what is written of each node, and so of whole trees.
use Rattle.std.proofs.Common.{◌≡◌, Bool, sym, subst, ap}
use denote.Hole.Holds.{Such}
use Rattle.swc_ecma_codegen_tree.specs.declared.links.AnyNode.{AnyNode, AnyNode-F, ind-AnyNode, map-AnyNode, roll-AnyNode}
use Rattle.swc_ecma_codegen_tree.specs.declared.links.AnyNode.TheOpen as nodes
use Rattle.swc_ecma_codegen_tree.specs.declared.links.AnyNode.TheBlock.{the_family, member-AnyNode}
use Rattle.swc_ecma_codegen_tree.specs.declared.links.AnyNode.TheFolds.{claims}
use Rattle.swc_ecma_codegen_tree.specs.declared.links.AnyNode.TheViews.{out-roll-AnyNode}
use Rattle.swc_ecma_codegen_tree.specs.declared.parts.ExprPart.{ExprPart}
use Rattle.swc_ecma_codegen_tree.specs.declared.parts.ExprPart.TheVariants as expr_parts
use Rattle.swc_ecma_codegen_tree.specs.declared.parts.JSXPart.{JSXPart}
use Rattle.swc_ecma_codegen_tree.specs.declared.parts.JSXPart.TheVariants as jsx_parts
use Rattle.swc_ecma_codegen_tree.specs.declared.parts.StmtPart.{StmtPart}
use Rattle.swc_ecma_codegen_tree.specs.declared.parts.StmtPart.TheVariants as stmt_parts
use Rattle.swc_ecma_codegen_tree.specs.declared.parts.TsPart.{TsPart}
use Rattle.swc_ecma_codegen_tree.specs.declared.parts.TsPart.TheVariants as ts_parts
use Rattle.swc_ecma_codegen_tokens.specs.Run.{Part}
use Rattle.swc_ecma_codegen_emit.specs.Places.{Place, context_of}
use Rattle.swc_ecma_codegen_emit.specs.Calls.{is_optional}
use Rattle.swc_ecma_codegen_emit.specs.Jsx.{jsx_part, jsx_element, jsx_fragment, jsx_element_parts, jsx_fragment_parts}
use Rattle.swc_ecma_codegen_emit.specs.Parts.{expr_part, stmt_part, ts_part}
use Rattle.swc_ecma_codegen_emit.specs.Templates.{is_tagged}
use Rattle.swc_ecma_codegen_emit.specs.Tree.{any_items, node_items}
use Rattle.swc_ecma_codegen_emit.proofs.MappedNodes.{items_of}
use Rattle.swc_ecma_codegen_laws.specs.Enclosing.{is_element, is_function, element_node, function_node}
use Rattle.swc_ecma_codegen_laws.proofs.OfWords.{OfWords, Known, asks_in, items_in}
use Rattle.swc_ecma_codegen_laws.proofs.AnyExprLifted.{placed_expr_holds}
use Rattle.swc_ecma_codegen_laws.proofs.BlocksLifted.{block_stmt_holds}
use Rattle.swc_ecma_codegen_laws.proofs.CallsLifted.{chain_call_holds}
use Rattle.swc_ecma_codegen_laws.proofs.ClassesLifted.{class_holds, class_member_holds}
use Rattle.swc_ecma_codegen_laws.proofs.DeclsLifted.{decl_holds, var_decl_holds}
use Rattle.swc_ecma_codegen_laws.proofs.ExprsLifted.{member_at_holds}
use Rattle.swc_ecma_codegen_laws.proofs.FunctionsLifted.{function_holds}
use Rattle.swc_ecma_codegen_laws.proofs.JsxLifted.{jsx_element_parts_holds, jsx_fragment_parts_holds, jsx_object_holds}
use Rattle.swc_ecma_codegen_laws.proofs.ModulesLifted.{module_decl_holds}
use Rattle.swc_ecma_codegen_laws.proofs.NamesLifted.{prop_name_holds}
use Rattle.swc_ecma_codegen_laws.proofs.NamespacesLifted.{ts_namespace_body_holds}
use Rattle.swc_ecma_codegen_laws.proofs.PatsLifted.{pat_holds}
use Rattle.swc_ecma_codegen_laws.proofs.PropsLifted.{object_lit_holds}
use Rattle.swc_ecma_codegen_laws.proofs.StmtsLifted.{stmt_holds}
use Rattle.swc_ecma_codegen_laws.proofs.TargetsLifted.{assign_target_holds}
use Rattle.swc_ecma_codegen_laws.proofs.TemplatesLifted.{tpl_holds}
use Rattle.swc_ecma_codegen_laws.proofs.TsMembersLifted.{ts_interface_body_holds}
use Rattle.swc_ecma_codegen_laws.proofs.TypesLifted.{ts_type_holds, ts_type_ann_holds, ts_type_param_decl_holds, ts_type_param_instantiation_holds, ts_fn_param_holds, ts_entity_name_holds}

expr_part_holds : {X : Type 0} {holds : Bool → Part → Type 0} (known : Known holds X) (bounded : Bool) (n : ExprPart X) (place : Place) → holds bounded (expr_part (asks_in known) (items_in known) n place)
unfolding expr_part
expr_part_holds known bounded (expr_parts.Pat n) place = pat_holds known bounded n
expr_part_holds known bounded (expr_parts.ObjectLit n) place = object_lit_holds known bounded n
expr_part_holds known bounded (expr_parts.PropName n) place = prop_name_holds known bounded n
expr_part_holds known bounded (expr_parts.AssignTarget n) place = assign_target_holds known bounded n
expr_part_holds known bounded (expr_parts.Tpl n) place = tpl_holds known bounded (is_tagged (context_of place)) n
expr_part_holds known bounded (expr_parts.OptCall n) place = chain_call_holds known bounded (is_optional (context_of place)) n

ts_part_holds : {X : Type 0} {holds : Bool → Part → Type 0} (known : Known holds X) (bounded : Bool) (n : TsPart X) (place : Place) → holds bounded (ts_part (asks_in known) (items_in known) n place)
unfolding ts_part
ts_part_holds known bounded (ts_parts.TsType n) place = ts_type_holds known bounded n
ts_part_holds known bounded (ts_parts.TsTypeAnn n) place = ts_type_ann_holds known bounded n (context_of place)
ts_part_holds known bounded (ts_parts.TsTypeParamDecl n) place = ts_type_param_decl_holds known bounded n
ts_part_holds known bounded (ts_parts.TsTypeParamInstantiation n) place = ts_type_param_instantiation_holds known bounded n (context_of place)
ts_part_holds known bounded (ts_parts.TsFnParam n) place = ts_fn_param_holds known bounded n
ts_part_holds known bounded (ts_parts.TsInterfaceBody n) place = ts_interface_body_holds known bounded n
ts_part_holds known bounded (ts_parts.TsEntityName n) place = ts_entity_name_holds known bounded n
ts_part_holds known bounded (ts_parts.TsNamespaceBody n) place = ts_namespace_body_holds known bounded n (context_of place)

-- a node as it stands in a tree
abbrev in_tree : {X : Type 0} {holds : Bool → Part → Type 0} → Known holds X → AnyNode-F X → AnyNode
in_tree known n = roll-AnyNode (map-AnyNode _ AnyNode known.node n)

written_in_tree : {X : Type 0} {holds : Bool → Part → Type 0} (known : Known holds X) (n : AnyNode-F X) (place : Place) → any_items (in_tree known n) place ≡ node_items (asks_in known) (items_in known) n place
written_in_tree known n place = items_of known.node n place

stmt_part_holds : {X : Type 0} {holds : Bool → Part → Type 0} (known : Known holds X) (bounded : Bool) (n : StmtPart X) (place : Place) → holds bounded (stmt_part (asks_in known) (items_in known) n place)
unfolding stmt_part node_items is_function function_node
stmt_part_holds known bounded (stmt_parts.Function n) place = function_holds known bounded (in_tree known (nodes.StmtPart (stmt_parts.Function n))) n.value place (ap function_node (out-roll-AnyNode (map-AnyNode _ AnyNode known.node (nodes.StmtPart (stmt_parts.Function n))))) (written_in_tree known (nodes.StmtPart (stmt_parts.Function n)) place)
stmt_part_holds known bounded (stmt_parts.Class n) place = class_holds known bounded n.value place
stmt_part_holds known bounded (stmt_parts.ClassMember n) place = class_member_holds known bounded n.value
stmt_part_holds known bounded (stmt_parts.BlockStmt n) place = block_stmt_holds known bounded n (context_of place)
stmt_part_holds known bounded (stmt_parts.Decl n) place = decl_holds known bounded n place
stmt_part_holds known bounded (stmt_parts.ModuleDecl n) place = module_decl_holds known bounded n.value
stmt_part_holds known bounded (stmt_parts.VarDecl n) place = var_decl_holds known bounded n

jsx_part_holds : {X : Type 0} {holds : Bool → Part → Type 0} (known : Known holds X) (bounded : Bool) (n : JSXPart X) (place : Place) → holds bounded (jsx_part (asks_in known) (items_in known) n place)
unfolding jsx_part jsx_element jsx_fragment node_items is_element element_node
jsx_part_holds {holds = holds} known bounded (jsx_parts.JSXElement n) place =
    let q = written_in_tree known (nodes.JSXPart (jsx_parts.JSXElement n)) place in
    subst (λ z. holds bounded z) q (known.words.element bounded (in_tree known (nodes.JSXPart (jsx_parts.JSXElement n))) place (jsx_element_parts (asks_in known) (items_in known) n.value (context_of place)) (ap element_node (out-roll-AnyNode (map-AnyNode _ AnyNode known.node (nodes.JSXPart (jsx_parts.JSXElement n))))) q (jsx_element_parts_holds known n.value (context_of place)))
jsx_part_holds {holds = holds} known bounded (jsx_parts.JSXFragment n) place =
    let q = written_in_tree known (nodes.JSXPart (jsx_parts.JSXFragment n)) place in
    subst (λ z. holds bounded z) q (known.words.element bounded (in_tree known (nodes.JSXPart (jsx_parts.JSXFragment n))) place (jsx_fragment_parts (items_in known) n (context_of place)) (ap element_node (out-roll-AnyNode (map-AnyNode _ AnyNode known.node (nodes.JSXPart (jsx_parts.JSXFragment n))))) q (jsx_fragment_parts_holds known n (context_of place)))
jsx_part_holds known bounded (jsx_parts.JSXObject n) place = jsx_object_holds known bounded n

-- one node
node_holds : {X : Type 0} {holds : Bool → Part → Type 0} (known : Known holds X) (bounded : Bool) (n : AnyNode-F X) (place : Place) → holds bounded (node_items (asks_in known) (items_in known) n place)
unfolding node_items
node_holds known bounded (nodes.Expr n) place = placed_expr_holds known bounded n (context_of place)
node_holds known bounded (nodes.Stmt n) place = stmt_holds known bounded n
node_holds known bounded (nodes.MemberExpr n) place = member_at_holds known bounded n (context_of place)
node_holds known bounded (nodes.ExprPart n) place = expr_part_holds known bounded n place
node_holds known bounded (nodes.StmtPart n) place = stmt_part_holds known bounded n place
node_holds known bounded (nodes.JSXPart n) place = jsx_part_holds known bounded n place
node_holds known bounded (nodes.TsPart n) place = ts_part_holds known bounded n place

abbrev Law : (Bool → Part → Type 0) → AnyNode → Type 0
Law holds n = (bounded : Bool) (place : Place) → holds bounded (any_items n place)

-- nodes that a link of the tree holds, with the law of each
abbrev children : {holds : Bool → Part → Type 0} → OfWords holds → Known holds (Such the_family (claims (Law holds)) member-AnyNode)
children words = record { words = words; node = λ y. y.0; law = λ bounded y place. y.1 bounded place }

-- a whole tree
pub tree_holds : {holds : Bool → Part → Type 0} → OfWords holds → (n : AnyNode) (bounded : Bool) (place : Place) → holds bounded (any_items n place)
tree_holds {holds} words = ind-AnyNode (Law holds) (λ x y q. subst (λ z. Law holds (roll-AnyNode z)) q (λ bounded place.
    subst (λ z. holds bounded z) (sym (items_of (λ z. z.0) y place)) (node_holds (children words) bounded y place)))

-- the nodes of a whole tree
abbrev pub in_trees : {holds : Bool → Part → Type 0} → OfWords holds → Known holds AnyNode
in_trees words = record { words = words; node = λ n. n; law = λ bounded n place. tree_holds words n bounded place }
