use Rattle.std.proofs.Common.{◌≡◌, ◌<◌, arith, rules, subst, sym, ℕ}
use Rattle.grid_blocks.specs.Grid.{cell}
use Rattle.grid_blocks.proofs.Grids.{cells_small, cell_read, below_64, key_of_cells, key_small}
use Rattle.grid_blocks.proofs.grid.Grid.key.Goals as goal

pub overflow_mul-result-2 : goal.overflow_mul-result-2
overflow_mul-result-2 c =
    let small = cells_small c.args.self.now.area c.args.self.now.exponent c.args.p c.args.self.now.is_exponent c.requires in
    let y : c.cell-y.result ≡ cell c.args.self.now.exponent c.args.self.now.area.min.y c.args.p.y = cell_read c.args.self.now.exponent c.cell-y.result c.args.self.now.area.min.y c.args.p.y (search rules) (search rules) c.cell-y.ensures in
    let z : c.cell-z.result ≡ cell c.args.self.now.exponent c.args.self.now.area.min.z c.args.p.z = cell_read c.args.self.now.exponent c.cell-z.result c.args.self.now.area.min.z c.args.p.z (search rules) (search rules) c.cell-z.ensures in
    omega (arith, below_64 _ _ y small.y, below_64 _ _ z small.z)

pub overflow_add-result : goal.overflow_add-result
overflow_add-result c =
    let small = cells_small c.args.self.now.area c.args.self.now.exponent c.args.p c.args.self.now.is_exponent c.requires in
    let y : c.cell-y.result ≡ cell c.args.self.now.exponent c.args.self.now.area.min.y c.args.p.y = cell_read c.args.self.now.exponent c.cell-y.result c.args.self.now.area.min.y c.args.p.y (search rules) (search rules) c.cell-y.ensures in
    let z : c.cell-z.result ≡ cell c.args.self.now.exponent c.args.self.now.area.min.z c.args.p.z = cell_read c.args.self.now.exponent c.cell-z.result c.args.self.now.area.min.z c.args.p.z (search rules) (search rules) c.cell-z.ensures in
    omega (arith, below_64 _ _ y small.y, below_64 _ _ z small.z)

pub overflow_add-result-2 : goal.overflow_add-result-2
overflow_add-result-2 c =
    let small = cells_small c.args.self.now.area c.args.self.now.exponent c.args.p c.args.self.now.is_exponent c.requires in
    let x : c.cell-x.result ≡ cell c.args.self.now.exponent c.args.self.now.area.min.x c.args.p.x = cell_read c.args.self.now.exponent c.cell-x.result c.args.self.now.area.min.x c.args.p.x (search rules) (search rules) c.cell-x.ensures in
    let y : c.cell-y.result ≡ cell c.args.self.now.exponent c.args.self.now.area.min.y c.args.p.y = cell_read c.args.self.now.exponent c.cell-y.result c.args.self.now.area.min.y c.args.p.y (search rules) (search rules) c.cell-y.ensures in
    let z : c.cell-z.result ≡ cell c.args.self.now.exponent c.args.self.now.area.min.z c.args.p.z = cell_read c.args.self.now.exponent c.cell-z.result c.args.self.now.area.min.z c.args.p.z (search rules) (search rules) c.cell-z.ensures in
    omega (arith, below_64 _ _ x small.x, below_64 _ _ y small.y, below_64 _ _ z small.z)

pub returns-clause-key : goal.returns-clause-key
returns-clause-key c =
    key_of_cells c.args.self.now.area c.args.self.now.exponent c.cell-x.result c.cell-y.result c.cell-z.result c.args.p (cell_read c.args.self.now.exponent c.cell-x.result c.args.self.now.area.min.x c.args.p.x (search rules) (search rules) c.cell-x.ensures)
    (cell_read c.args.self.now.exponent c.cell-y.result c.args.self.now.area.min.y c.args.p.y (search rules) (search rules) c.cell-y.ensures) (cell_read c.args.self.now.exponent c.cell-z.result c.args.self.now.area.min.z c.args.p.z (search rules) (search rules) c.cell-z.ensures)

pub returns-clause-small : goal.returns-clause-small
returns-clause-small c =
    subst (λ (n : ℕ). n < 262144) (sym (returns-clause-key c)) (key_small c.args.self.now.area c.args.self.now.exponent c.args.p c.args.self.now.is_exponent c.requires)
