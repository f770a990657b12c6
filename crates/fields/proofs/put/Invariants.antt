-- `fields::put` meets its contract.
-- Assumes nothing.
use Rattle.std.proofs.Common.{◌≡◌, ◌-◌, ◌++◌, length, take}
use Rattle.fields.specs.Numbers.{bytes_of}
use Rattle.fields.proofs.put.Given as goal

abbrev pub invariant-loop-byte : goal.invariant-loop-byte
invariant-loop-byte l =
    let w = length l.initial.bytes in
    bytes_of w l.number ≡ take l.byte-index l.bytes ++ bytes_of (w - l.byte-index) l.rest
