-- The device of a cell over a device under a plan.
use Rattle.piv_model.specs.declared.store.Store.{Ghosts}
use Rattle.nvm_device.specs.declared.device.Nvm.{Ghosts as NvmGhosts}
use Rattle.nvm_device.specs.declared.fused.Fused.{Fused}
use Rattle.nvm_device.specs.Fused.{inner_of}
use Rattle.card_image.specs.declared.objects.Objects.{Ghosts as ObjectsGhosts}
use Rattle.card_image.specs.declared.image.Image.{Image}
use Rattle.card_image.specs.Device.{device_of}
use Rattle.card_cell.specs.declared.cell.CardCell.{CardCell}
use Rattle.card_cell.specs.Cells.{store_of}

abbrev pub device_in : {N O T : Type 0} {n : NvmGhosts N} {f : NvmGhosts (Fused N n)} {o : ObjectsGhosts O}
    {meaning : Ghosts (Image (Fused N n) O f o) T} → CardCell (Image (Fused N n) O f o) T meaning → N
device_in cell = inner_of (device_of (store_of cell))
