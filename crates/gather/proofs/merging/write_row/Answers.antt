use Rattle.std.proofs.Common.{ℕ, ◌+◌, ◌-◌, ◌*◌, List, refl, arith}
use Rattle.gather.proofs.Writing.{row_added, as_written, behind_row}
use Rattle.gather.proofs.merging.write_row.Goals as goal

pub returns : goal.returns
returns c =
    let w : ℕ = c.args.width in
    let s : ℕ = 1 + (1 + w) * c.args.n in
    let out : List ℕ = c.args.out.now in
    let cells : List ℕ = c.args.row.cells.now in
    let k : ℕ = s + 1 + w - (s + 1) in
    record {
      rows = row_added w c.args.n c.args.row.node cells out c.requires.wide s refl (omega arith) _
          (as_written w c.args.n c.args.row.node cells out c.requires.wide s refl (omega arith) k c.copy_from_slice.new.self (omega arith) c.copy_from_slice.ensures.after);
      behind = behind_row w c.args.n c.args.row.node cells out c.requires.wide s refl (omega arith) k c.copy_from_slice.new.self (omega arith) c.copy_from_slice.ensures.after
          (1 + (1 + w) * (c.args.n + 1)) (omega arith);
    }
