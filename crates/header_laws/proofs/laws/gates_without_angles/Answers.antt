-- By what the calls come to, and the maps of that.
use Rattle.header_laws.proofs.PlainGates.{they_have}
use Rattle.header_laws.proofs.laws.gates_without_angles.Goals as goal

pub returns : goal.returns
returns c = record {
  id = they_have.0;
  x = they_have.1.0;
  y = they_have.1.1.0;
  z = they_have.1.1.1.0;
  h = they_have.1.1.1.1.0;
  s = they_have.1.1.1.1.1.0;
  sdg = they_have.1.1.1.1.1.1.0;
  t = they_have.1.1.1.1.1.1.1.0;
  tdg = they_have.1.1.1.1.1.1.1.1.0;
  sx = they_have.1.1.1.1.1.1.1.1.1.0;
  sxdg = they_have.1.1.1.1.1.1.1.1.1.1.0;
  cx = they_have.1.1.1.1.1.1.1.1.1.1.1.0;
  cy = they_have.1.1.1.1.1.1.1.1.1.1.1.1.0;
  cz = they_have.1.1.1.1.1.1.1.1.1.1.1.1.1.0;
  ch = they_have.1.1.1.1.1.1.1.1.1.1.1.1.1.1.0;
  swap = they_have.1.1.1.1.1.1.1.1.1.1.1.1.1.1.1.0;
  ccx = they_have.1.1.1.1.1.1.1.1.1.1.1.1.1.1.1.1.0;
  cswap = they_have.1.1.1.1.1.1.1.1.1.1.1.1.1.1.1.1.1.0;
  ccz = they_have.1.1.1.1.1.1.1.1.1.1.1.1.1.1.1.1.1.1.0;
}
