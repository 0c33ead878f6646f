-- The piece is replaced, and the scalar multiplied; or neither.
use Rattle.zx_pieces.proofs.Works.{adds_as_read, rescaled_by}
use Rattle.zx_pieces.proofs.replacing.add_smaller.Goals as goal

pub returns-in_ok-append-in-Some : goal.returns-in_ok-append-in-Some
returns-in_ok-append-in-Some c =
    let factor = rw c.in-Some.is at c.product.ensures in
    record {
      qubits = c.in_ok-append-in-Some.ensures.qubits;
      adds = record { new = c.args.made.now.gates; gates = c.in_ok-append-in-Some.ensures.gates; replaces = c.requires.replacement };
      scalar = rescaled_by c.args.piece.now.qubits c.args.done.now.gates c.args.piece.now.gates c.args.made.now.gates c.append.new.list.gates
          c.args.scalar c.args.factor c.in-Some.product c.in_ok-append-in-Some.ensures.gates factor.value c.requires.scaled;
      small = factor.within;
    }

pub returns-in_ok-append-in-None : goal.returns-in_ok-append-in-None
returns-in_ok-append-in-None c =
    adds_as_read c.args.piece.now c.args.done.now c.append-in-None.new.list c.args.scalar c.requires.piece.on_qubits c.requires.small
    c.in_ok-append-in-None.ensures.qubits c.in_ok-append-in-None.ensures.gates
