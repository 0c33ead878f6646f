-- By what the calls come to, and the maps of that.
use Rattle.header_laws.proofs.AngleGates as gates
use Rattle.header_laws.proofs.laws.gates_with_angles.Goals as goal

pub returns-clause-u1 : goal.returns-clause-u1
returns-clause-u1 c = gates.u1_map

pub returns-clause-p : goal.returns-clause-p
returns-clause-p c = gates.p_map

pub returns-clause-rx : goal.returns-clause-rx
returns-clause-rx c = gates.rx_map

pub returns-clause-ry : goal.returns-clause-ry
returns-clause-ry c = gates.ry_map

pub returns-clause-rz : goal.returns-clause-rz
returns-clause-rz c = gates.rz_map

pub returns-clause-u2 : goal.returns-clause-u2
returns-clause-u2 c = gates.u2_map

pub returns-clause-u3 : goal.returns-clause-u3
returns-clause-u3 c = gates.u3_map

pub returns-clause-u : goal.returns-clause-u
returns-clause-u c = gates.u_map

pub returns-clause-rzz : goal.returns-clause-rzz
returns-clause-rzz c = gates.rzz_map
