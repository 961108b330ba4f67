-- What a thread is given may go to it: the toolchain finds this for all types below, but for those that have a draft.
use denote.Ref.{NamedLft}
use denote.RattleType.{RattleType}
use denote.Param.Send.{IsSend, IsSync, sendable}
use Rattle.std.proofs.Crossing.{crosses}
use Rattle.std.proofs.alloc.Global.TheSendSync as heap
use Rattle.login_base.proofs.ids.Uid.TheSendSync as uid
use Rattle.login_base.proofs.reserved.Reserved.TheSendSync as reserved
use Rattle.login_facts.proofs.facts.Facts.TheSendSync as facts
use Rattle.login_core.proofs.room.ledger.Ledger.TheSendSync as ledger
use Rattle.login_core.proofs.room.ready.Ready.TheSendSync as ready
use Rattle.login_core.proofs.room.texts.Texts.TheSendSync as texts
use Rattle.login_core.specs.contracts.board.Board as Board
use Rattle.login_core.specs.contracts.board.Draft as Draft
use Rattle.login_core.specs.contracts.state.Core as Core
use Rattle.login_model.proofs.inputs.Inputs.TheSendSync as inputs
use Rattle.login_model.proofs.mark.Mark.TheSendSync as mark
use Rattle.login_model.proofs.setup.Setup.TheSendSync as setup
use Rattle.desk.proofs.desk.Desk.TheSendSync as desk
use Rattle.desk.proofs.pass.Pass.TheSendSync as pass
use Rattle.recording.proofs.line_reader.LineReader.TheSendSync as lines
use Rattle.link_serve.specs.contracts.core_at_desk.CoreAtDesk as CoreAtDesk
use Rattle.login_prog.proofs.serve.link_job.DoneBell.TheSendSync as bell
use Rattle.login_prog.specs.contracts.serve.link_job.LinkJob as LinkJob
use Rattle.login_prog.specs.contracts.serve.reader_job.ReaderJob as ReaderJob

draft-send : IsSend Draft.the_row
draft-send = search (reserved.the_send, mark.the_send, facts.the_send, sendable, crosses) depth 60 fits 5000

board-send : IsSend (Board.the_field).row
board-send = search (ledger.the_send, draft-send, reserved.the_send, mark.the_send, heap.the_field_send, sendable, crosses) depth 60 fits 5000

core-send : IsSend Core.the_row
core-send = search (setup.the_field_send, board-send, texts.the_field_send, ready.the_field_send, inputs.the_send, sendable, crosses) depth 60 fits 5000

core-at-desk-send : IsSend CoreAtDesk.the_row
core-at-desk-send = search (core-send, sendable, crosses) depth 60 fits 5000

pub link-job-send : (κ : NamedLft) (R L G : RattleType) → IsSync R → IsSend L → IsSync G → IsSend (LinkJob.the_row κ R L G)
link-job-send κ R L G r l g = search (core-at-desk-send, desk.the_sync, pass.the_send, uid.the_field_send, bell.the_field_send, heap.the_field_send, sendable, crosses) depth 60 fits 5000

pub reader-job-send : (κ : NamedLft) (R S G : RattleType) → IsSync R → IsSend S → IsSync G → IsSend (ReaderJob.the_row κ R S G)
reader-job-send κ R S G r s g = search (core-at-desk-send, desk.the_sync, pass.the_send, lines.the_send, heap.the_field_send, sendable, crosses) depth 60 fits 5000
