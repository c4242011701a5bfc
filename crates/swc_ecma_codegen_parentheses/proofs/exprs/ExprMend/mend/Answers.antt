use Rattle.std.proofs.Common.{refl}
use Rattle.std.proofs.lemmas.Result.{on_ok_weaker}
use Rattle.swc_ecma_codegen_parentheses.specs.SameExprs.{array, object, fn, unary, update, bin, assign, member, super_prop, cond, call, new, seq, tpl, tagged_tpl, arrow, class, yield, await, paren, jsx_element, jsx_fragment, opt_chain, ts_type_assertion, ts_const_assertion, ts_non_null, ts_as, ts_instantiation, ts_satisfies}
use Rattle.swc_ecma_codegen_parentheses.proofs.exprs.ExprMend.mend.Goals as goal

pub returns-in-Array : goal.returns-in-Array
returns-in-Array g c = on_ok_weaker c.mend.result (λ same. array c.in-Array.node c.mend.new.self c.in-Array.is refl same) c.mend.ensures

pub returns-in-Object : goal.returns-in-Object
returns-in-Object g c = on_ok_weaker c.mend-in-Object.result (λ same. object c.in-Object.node c.mend-in-Object.new.self c.in-Object.is refl same) c.mend-in-Object.ensures

pub returns-in-Fn : goal.returns-in-Fn
returns-in-Fn g c = on_ok_weaker c.mend-in-Fn.result (λ same. fn c.in-Fn.node c.mend-in-Fn.new.self c.in-Fn.is refl same) c.mend-in-Fn.ensures

pub returns-in-Unary : goal.returns-in-Unary
returns-in-Unary g c = on_ok_weaker c.mend-in-Unary.result (λ same. unary c.in-Unary.node c.mend-in-Unary.new.self c.in-Unary.is refl same) c.mend-in-Unary.ensures

pub returns-in-Update : goal.returns-in-Update
returns-in-Update g c = on_ok_weaker c.mend-in-Update.result (λ same. update c.in-Update.node c.mend-in-Update.new.self c.in-Update.is refl same) c.mend-in-Update.ensures

pub returns-in-Bin : goal.returns-in-Bin
returns-in-Bin g c = on_ok_weaker c.mend-in-Bin.result (λ same. bin c.in-Bin.node c.mend-in-Bin.new.self c.in-Bin.is refl same) c.mend-in-Bin.ensures

pub returns-in-Assign : goal.returns-in-Assign
returns-in-Assign g c = on_ok_weaker c.mend-in-Assign.result (λ same. assign c.in-Assign.node c.mend-in-Assign.new.self c.in-Assign.is refl same) c.mend-in-Assign.ensures

pub returns-in-Member : goal.returns-in-Member
returns-in-Member g c = on_ok_weaker c.mend-in-Member.result (λ same. member c.in-Member.node c.mend-in-Member.new.self c.in-Member.is refl same) c.mend-in-Member.ensures

pub returns-in-SuperProp : goal.returns-in-SuperProp
returns-in-SuperProp g c = on_ok_weaker c.mend-in-SuperProp.result (λ same. super_prop c.in-SuperProp.node c.mend-in-SuperProp.new.self c.in-SuperProp.is refl same) c.mend-in-SuperProp.ensures

pub returns-in-Cond : goal.returns-in-Cond
returns-in-Cond g c = on_ok_weaker c.mend-in-Cond.result (λ same. cond c.in-Cond.node c.mend-in-Cond.new.self c.in-Cond.is refl same) c.mend-in-Cond.ensures

pub returns-in-Call : goal.returns-in-Call
returns-in-Call g c = on_ok_weaker c.mend-in-Call.result (λ same. call c.in-Call.node c.mend-in-Call.new.self c.in-Call.is refl same) c.mend-in-Call.ensures

pub returns-in-New : goal.returns-in-New
returns-in-New g c = on_ok_weaker c.mend-in-New.result (λ same. new c.in-New.node c.mend-in-New.new.self c.in-New.is refl same) c.mend-in-New.ensures

pub returns-in-Seq : goal.returns-in-Seq
returns-in-Seq g c = on_ok_weaker c.mend-in-Seq.result (λ same. seq c.in-Seq.node c.mend-in-Seq.new.self c.in-Seq.is refl same) c.mend-in-Seq.ensures

pub returns-in-Tpl : goal.returns-in-Tpl
returns-in-Tpl g c = on_ok_weaker c.mend-in-Tpl.result (λ same. tpl c.in-Tpl.node c.mend-in-Tpl.new.self c.in-Tpl.is refl same) c.mend-in-Tpl.ensures

pub returns-in-TaggedTpl : goal.returns-in-TaggedTpl
returns-in-TaggedTpl g c = on_ok_weaker c.mend-in-TaggedTpl.result (λ same. tagged_tpl c.in-TaggedTpl.node c.mend-in-TaggedTpl.new.self c.in-TaggedTpl.is refl same) c.mend-in-TaggedTpl.ensures

pub returns-in-Arrow : goal.returns-in-Arrow
returns-in-Arrow g c = on_ok_weaker c.mend-in-Arrow.result (λ same. arrow c.in-Arrow.node c.mend-in-Arrow.new.self c.in-Arrow.is refl same) c.mend-in-Arrow.ensures

pub returns-in-Class : goal.returns-in-Class
returns-in-Class g c = on_ok_weaker c.mend-in-Class.result (λ same. class c.in-Class.node c.mend-in-Class.new.self c.in-Class.is refl same) c.mend-in-Class.ensures

pub returns-in-Yield : goal.returns-in-Yield
returns-in-Yield g c = on_ok_weaker c.mend-in-Yield.result (λ same. yield c.in-Yield.node c.mend-in-Yield.new.self c.in-Yield.is refl same) c.mend-in-Yield.ensures

pub returns-in-Await : goal.returns-in-Await
returns-in-Await g c = on_ok_weaker c.mend-in-Await.result (λ same. await c.in-Await.node c.mend-in-Await.new.self c.in-Await.is refl same) c.mend-in-Await.ensures

pub returns-in-Paren : goal.returns-in-Paren
returns-in-Paren g c = on_ok_weaker c.mend-in-Paren.result (λ same. paren c.in-Paren.node c.mend-in-Paren.new.self c.in-Paren.is refl same) c.mend-in-Paren.ensures

pub returns-in-JSXElement : goal.returns-in-JSXElement
returns-in-JSXElement g c = on_ok_weaker c.mend-in-JSXElement.result (λ same. jsx_element c.in-JSXElement.node c.mend-in-JSXElement.new.self c.in-JSXElement.is refl same) c.mend-in-JSXElement.ensures

pub returns-in-JSXFragment : goal.returns-in-JSXFragment
returns-in-JSXFragment g c = on_ok_weaker c.mend-in-JSXFragment.result (λ same. jsx_fragment c.in-JSXFragment.node c.mend-in-JSXFragment.new.self c.in-JSXFragment.is refl same) c.mend-in-JSXFragment.ensures

pub returns-in-OptChain : goal.returns-in-OptChain
returns-in-OptChain g c = on_ok_weaker c.mend-in-OptChain.result (λ same. opt_chain c.in-OptChain.node c.mend-in-OptChain.new.self c.in-OptChain.is refl same) c.mend-in-OptChain.ensures

pub returns-in-TsTypeAssertion : goal.returns-in-TsTypeAssertion
returns-in-TsTypeAssertion g c = on_ok_weaker c.mend-in-TsTypeAssertion.result (λ same. ts_type_assertion c.in-TsTypeAssertion.node c.mend-in-TsTypeAssertion.new.self c.in-TsTypeAssertion.is refl same) c.mend-in-TsTypeAssertion.ensures

pub returns-in-TsConstAssertion : goal.returns-in-TsConstAssertion
returns-in-TsConstAssertion g c = on_ok_weaker c.mend-in-TsConstAssertion.result (λ same. ts_const_assertion c.in-TsConstAssertion.node c.mend-in-TsConstAssertion.new.self c.in-TsConstAssertion.is refl same) c.mend-in-TsConstAssertion.ensures

pub returns-in-TsNonNull : goal.returns-in-TsNonNull
returns-in-TsNonNull g c = on_ok_weaker c.mend-in-TsNonNull.result (λ same. ts_non_null c.in-TsNonNull.node c.mend-in-TsNonNull.new.self c.in-TsNonNull.is refl same) c.mend-in-TsNonNull.ensures

pub returns-in-TsAs : goal.returns-in-TsAs
returns-in-TsAs g c = on_ok_weaker c.mend-in-TsAs.result (λ same. ts_as c.in-TsAs.node c.mend-in-TsAs.new.self c.in-TsAs.is refl same) c.mend-in-TsAs.ensures

pub returns-in-TsInstantiation : goal.returns-in-TsInstantiation
returns-in-TsInstantiation g c = on_ok_weaker c.mend-in-TsInstantiation.result (λ same. ts_instantiation c.in-TsInstantiation.node c.mend-in-TsInstantiation.new.self c.in-TsInstantiation.is refl same) c.mend-in-TsInstantiation.ensures

pub returns-in-TsSatisfies : goal.returns-in-TsSatisfies
returns-in-TsSatisfies g c = on_ok_weaker c.mend-in-TsSatisfies.result (λ same. ts_satisfies c.in-TsSatisfies.node c.mend-in-TsSatisfies.new.self c.in-TsSatisfies.is refl same) c.mend-in-TsSatisfies.ensures
