use Rattle.swc_ecma_codegen_emit.proofs.TreeReads.{new_begins, indented_begins, holding_begins, new_wants_ascii}
use Rattle.swc_ecma_codegen_emit.proofs.TreeMade.{new_is_ready}
use Rattle.swc_ecma_codegen_laws.proofs.new_emitter_reads.Goals as goal

pub returns-clause-new : goal.returns-clause-new
returns-clause-new c root lines maps config bytes line_end h = new_begins root lines maps config bytes line_end h

pub returns-clause-indented : goal.returns-clause-indented
returns-clause-indented c root lines maps config bytes line_end indent h k = indented_begins root lines maps config bytes line_end indent h k

pub returns-clause-ready : goal.returns-clause-ready
returns-clause-ready c lines maps config bytes line_end h = new_is_ready lines maps config bytes line_end h

pub returns-clause-holding : goal.returns-clause-holding
returns-clause-holding c root lines maps config bytes line_end h = holding_begins root lines maps config bytes line_end h

pub returns-clause-ascii : goal.returns-clause-ascii
returns-clause-ascii c lines maps config bytes line_end e h = new_wants_ascii lines maps config bytes line_end e h
