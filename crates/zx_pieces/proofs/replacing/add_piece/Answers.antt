-- What replaces the piece is added, or the piece.
use Rattle.zx_pieces.proofs.Works.{adds_as_read}
use Rattle.zx_pieces.proofs.replacing.add_piece.Goals as goal

pub returns-in_ok-append-in-None : goal.returns-in_ok-append-in-None
returns-in_ok-append-in-None c =
    adds_as_read c.args.piece.now c.args.done.now c.append.new.list c.args.scalar c.requires.piece.on_qubits c.requires.small
    c.in_ok-append-in-None.ensures.qubits c.in_ok-append-in-None.ensures.gates
