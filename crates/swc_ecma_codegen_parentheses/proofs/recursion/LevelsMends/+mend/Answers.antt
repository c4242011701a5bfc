use Rattle.std.proofs.lemmas.Result.{on_ok_weaker}
use Rattle.swc_ecma_codegen_parentheses.specs.declared.mends.Usage.TheVariants as usages
use Rattle.swc_ecma_codegen_parentheses.proofs.Held.{one_level_linked}
use Rattle.swc_ecma_codegen_parentheses.proofs.recursion.LevelsMends.+mend.Goals as goal

pub expr-returns-in-More : goal.expr-returns-in-More
expr-returns-in-More g t c = on_ok_weaker c.change_expr.result (one_level_linked g.C.Change.changed c.args.self.now c.deref.result.now c.in-More.fewer c.args.usage c.args.link.now c.change_expr.new.link c.in-More.is c.deref.ensures) c.change_expr.ensures

pub pat-returns-in-More : goal.pat-returns-in-More
pat-returns-in-More g t c = on_ok_weaker c.change_pat.result (one_level_linked g.C.Change.changed c.args.self.now c.deref.result.now c.in-More.fewer c.args.usage c.args.link.now c.change_pat.new.link c.in-More.is c.deref.ensures) c.change_pat.ensures

pub tpl-returns-in-More : goal.tpl-returns-in-More
tpl-returns-in-More g t c = on_ok_weaker c.change_tpl.result (one_level_linked g.C.Change.changed c.args.self.now c.deref.result.now c.in-More.fewer usages.Value c.args.link.now c.change_tpl.new.link c.in-More.is c.deref.ensures) c.change_tpl.ensures

pub prop_name-returns-in-More : goal.prop_name-returns-in-More
prop_name-returns-in-More g t c = on_ok_weaker c.change_prop_name.result (one_level_linked g.C.Change.changed c.args.self.now c.deref.result.now c.in-More.fewer usages.Value c.args.link.now c.change_prop_name.new.link c.in-More.is c.deref.ensures) c.change_prop_name.ensures

pub member_expr-returns-in-More : goal.member_expr-returns-in-More
member_expr-returns-in-More g t c = on_ok_weaker c.change_member_expr.result (one_level_linked g.C.Change.changed c.args.self.now c.deref.result.now c.in-More.fewer c.args.usage c.args.link.now c.change_member_expr.new.link c.in-More.is c.deref.ensures) c.change_member_expr.ensures

pub opt_call-returns-in-More : goal.opt_call-returns-in-More
opt_call-returns-in-More g t c = on_ok_weaker c.change_opt_call.result (one_level_linked g.C.Change.changed c.args.self.now c.deref.result.now c.in-More.fewer c.args.usage c.args.link.now c.change_opt_call.new.link c.in-More.is c.deref.ensures) c.change_opt_call.ensures

pub assign_target-returns-in-More : goal.assign_target-returns-in-More
assign_target-returns-in-More g t c = on_ok_weaker c.change_assign_target.result (one_level_linked g.C.Change.changed c.args.self.now c.deref.result.now c.in-More.fewer c.args.usage c.args.link.now c.change_assign_target.new.link c.in-More.is c.deref.ensures) c.change_assign_target.ensures

pub stmt-returns-in-More : goal.stmt-returns-in-More
stmt-returns-in-More g t c = on_ok_weaker c.change_stmt.result (one_level_linked g.C.Change.changed c.args.self.now c.deref.result.now c.in-More.fewer usages.Value c.args.link.now c.change_stmt.new.link c.in-More.is c.deref.ensures) c.change_stmt.ensures

pub function-returns-in-More : goal.function-returns-in-More
function-returns-in-More g t c = on_ok_weaker c.change_function.result (one_level_linked g.C.Change.changed c.args.self.now c.deref.result.now c.in-More.fewer usages.Value c.args.link.now c.change_function.new.link c.in-More.is c.deref.ensures) c.change_function.ensures

pub class-returns-in-More : goal.class-returns-in-More
class-returns-in-More g t c = on_ok_weaker c.change_class.result (one_level_linked g.C.Change.changed c.args.self.now c.deref.result.now c.in-More.fewer usages.Value c.args.link.now c.change_class.new.link c.in-More.is c.deref.ensures) c.change_class.ensures

pub block_stmt-returns-in-More : goal.block_stmt-returns-in-More
block_stmt-returns-in-More g t c = on_ok_weaker c.change_block_stmt.result (one_level_linked g.C.Change.changed c.args.self.now c.deref.result.now c.in-More.fewer usages.Value c.args.link.now c.change_block_stmt.new.link c.in-More.is c.deref.ensures) c.change_block_stmt.ensures

pub decl-returns-in-More : goal.decl-returns-in-More
decl-returns-in-More g t c = on_ok_weaker c.change_decl.result (one_level_linked g.C.Change.changed c.args.self.now c.deref.result.now c.in-More.fewer usages.Value c.args.link.now c.change_decl.new.link c.in-More.is c.deref.ensures) c.change_decl.ensures

pub module_decl-returns-in-More : goal.module_decl-returns-in-More
module_decl-returns-in-More g t c = on_ok_weaker c.change_module_decl.result (one_level_linked g.C.Change.changed c.args.self.now c.deref.result.now c.in-More.fewer usages.Value c.args.link.now c.change_module_decl.new.link c.in-More.is c.deref.ensures) c.change_module_decl.ensures

pub var_decl-returns-in-More : goal.var_decl-returns-in-More
var_decl-returns-in-More g t c = on_ok_weaker c.change_var_decl.result (one_level_linked g.C.Change.changed c.args.self.now c.deref.result.now c.in-More.fewer usages.Value c.args.link.now c.change_var_decl.new.link c.in-More.is c.deref.ensures) c.change_var_decl.ensures

pub class_member-returns-in-More : goal.class_member-returns-in-More
class_member-returns-in-More g t c = on_ok_weaker c.change_class_member.result (one_level_linked g.C.Change.changed c.args.self.now c.deref.result.now c.in-More.fewer usages.Value c.args.link.now c.change_class_member.new.link c.in-More.is c.deref.ensures) c.change_class_member.ensures

pub jsx_element-returns-in-More : goal.jsx_element-returns-in-More
jsx_element-returns-in-More g t c = on_ok_weaker c.change_jsx_element.result (one_level_linked g.C.Change.changed c.args.self.now c.deref.result.now c.in-More.fewer usages.Value c.args.link.now c.change_jsx_element.new.link c.in-More.is c.deref.ensures) c.change_jsx_element.ensures

pub jsx_fragment-returns-in-More : goal.jsx_fragment-returns-in-More
jsx_fragment-returns-in-More g t c = on_ok_weaker c.change_jsx_fragment.result (one_level_linked g.C.Change.changed c.args.self.now c.deref.result.now c.in-More.fewer usages.Value c.args.link.now c.change_jsx_fragment.new.link c.in-More.is c.deref.ensures) c.change_jsx_fragment.ensures
