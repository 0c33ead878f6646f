-- The planes that values of the code name.
use Rattle.zx_calculus.specs.Graph as graph
use Rattle.open_graph.specs.declared.plane.Plane.{Plane}
use Rattle.open_graph.specs.declared.plane.Plane.TheVariants.{XY, XZ, YZ}

-- the plane of this name
abbrev pub plane_named : Plane → graph.Plane
plane_named XY = graph.XY
plane_named XZ = graph.XZ
plane_named YZ = graph.YZ
