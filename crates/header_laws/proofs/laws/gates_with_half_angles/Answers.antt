-- By what the calls come to, and the maps of that.
use Rattle.header_laws.proofs.HalfGates as gates
use Rattle.header_laws.proofs.laws.gates_with_half_angles.Goals as goal

pub returns-clause-crx : goal.returns-clause-crx
returns-clause-crx c = gates.crx_map

pub returns-clause-cry : goal.returns-clause-cry
returns-clause-cry c = gates.cry_map

pub returns-clause-crz : goal.returns-clause-crz
returns-clause-crz c = gates.crz_map

pub returns-clause-cu1 : goal.returns-clause-cu1
returns-clause-cu1 c = gates.cu1_map

pub returns-clause-cp : goal.returns-clause-cp
returns-clause-cp c = gates.cp_map
