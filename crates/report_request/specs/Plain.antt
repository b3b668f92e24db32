-- Layouts and requests, with addresses of either family.
use Rattle.std.specs.Prelude.{ℕ}
use Rattle.bgp_update.specs.Families.{FamilyOf}
use Rattle.report_request.specs.declared.layout.Layout.{Layout as LayoutOf}
use Rattle.report_request.specs.declared.request.Request.{Request as RequestOf}

-- how lines are written, and the family of the routes
abbrev pub Layout : Type 0
Layout = LayoutOf FamilyOf

-- a request, with an address of 128 bits
abbrev pub Request : Type 0
Request = RequestOf ℕ
